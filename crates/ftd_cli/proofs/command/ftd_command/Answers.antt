use Rattle.std.proofs.Common.{ap, ◌∙◌}
use Rattle.std.proofs.lemmas.Result.{IfOk-weaker}
use Rattle.ftd_cli.specs.Apps.{with_names}
use Rattle.ftd_cli.specs.Table.{all_names}
use Rattle.ftd_cli.proofs.Simple.{whole}
use Rattle.ftd_cli.proofs.command.ftd_command.Goals as goal

pub returns-clause-app : goal.returns-clause-app
returns-clause-app c =
    IfOk-weaker c.with_all.result _ _
    (λ m h. h ∙ (ap (λ app. with_names app all_names) c.top_command.ensures.app ∙ whole))
    c.with_all.ensures.app

use Rattle.std.proofs.Common.{sym, ◌∙◌}
use Rattle.std.proofs.lemmas.Result.{IfOk-weaker}
use Rattle.ftd_cli.proofs.Single.{named_reads, whole_reads}
use Rattle.ftd_cli.proofs.parse.command_for.Goals as goal

pub returns-in-Some-clause-app : goal.returns-in-Some-clause-app
returns-in-Some-clause-app c = IfOk-weaker c.single_command.result _ _
    (λ command made. rw made (named_reads _ _ (sym c.named_command.ensures ∙ c.in-Some.is)))
    c.single_command.ensures.app

pub returns-in-None-clause-app : goal.returns-in-None-clause-app
returns-in-None-clause-app c = IfOk-weaker c.ftd_command.result _ _
    (λ command made. rw made (whole_reads _)) c.ftd_command.ensures.app

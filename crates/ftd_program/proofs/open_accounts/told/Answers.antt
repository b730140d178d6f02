use Rattle.ftd_desk.specs.Desks.{held}
use Rattle.ftd_program.proofs.OpenYears.{told_by}
use Rattle.ftd_program.proofs.open_accounts.told.Goals as goal

pub returns-in-Ok-clause-tells : goal.returns-in-Ok-clause-tells
returns-in-Ok-clause-tells g c =
    told_by (held g.S.Store c.args.desk.now) (held g.S.Store c.trial.new.self) c.args.kept
    c.in-Ok.answers.items c.told_in.result c.in-Ok.ensures.trial c.told_in.ensures.tells

use Rattle.ftd_desk.specs.Desks.{held}
use Rattle.ftd_desk.proofs.Opened.{desk_stands}
use Rattle.ftd_desk.proofs.desk.Desk.reopen.Goals as goal

pub returns-clause-stands : goal.returns-clause-stands
returns-clause-stands g c =
    desk_stands g.S.Store (held g.S.Store c.args.self) c.close.result c.open.result
    c.close.ensures.rests c.open.ensures.opens

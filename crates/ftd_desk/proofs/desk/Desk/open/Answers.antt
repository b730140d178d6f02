use Rattle.sqlite.specs.Held.{state}
use Rattle.ftd_desk.proofs.Opened.{desk_opens}
use Rattle.ftd_desk.proofs.desk.Desk.open.Goals as goal

pub returns-in-Ok-clause-opens : goal.returns-in-Ok-clause-opens
returns-in-Ok-clause-opens g c =
    desk_opens g.S.Store (state g.S.Store c.args.conn) c.in-Ok.conn c.over.result c.new.result
    c.in-Ok.ensures.ended c.over.ensures c.new.ensures.over c.new.ensures.keeps

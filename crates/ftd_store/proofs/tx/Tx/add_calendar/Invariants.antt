use Rattle.std.proofs.Common.{take, Ok}
use Rattle.ftd_store.specs.Changes.{with_calendar}
use Rattle.ftd_store.specs.Frame.{Writes}
use Rattle.ftd_store.proofs.tx.Tx.add_calendar.Given as goal

abbrev pub invariant-loop-day : goal.invariant-loop-day
invariant-loop-day g l = Writes g.S.Store l.fn.self l.self (Ok (tt {0}))
    (with_calendar l.fn.year (take l.day-index l.fn.days))

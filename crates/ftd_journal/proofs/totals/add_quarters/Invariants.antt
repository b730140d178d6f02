use Rattle.std.proofs.Common.{Ok}
use Rattle.ftd_store.specs.Frame.{Reads}
use Rattle.ftd_journal.proofs.PartsAdded.{SoFar}
use Rattle.ftd_journal.proofs.TotalsKnown.{ListsQuarters, quarter_part}
use Rattle.ftd_journal.proofs.totals.add_quarters.Given as goal

abbrev pub invariant-loop-total : goal.invariant-loop-total
invariant-loop-total g l =
    Reads g.S.Store l.fn.tx l.tx (Ok (tt {0}))
    (λ done. SoFar (ListsQuarters l.fn.name l.total-items) (quarter_part l.fn.name) l.total-items
    l.total-index l.fn.requests.items l.requests.items)

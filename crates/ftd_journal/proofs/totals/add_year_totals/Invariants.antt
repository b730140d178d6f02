use Rattle.std.proofs.Common.{Ok}
use Rattle.ftd_store.specs.Frame.{Reads}
use Rattle.ftd_journal.proofs.PartsAdded.{SoFar}
use Rattle.ftd_journal.proofs.TotalsKnown.{ListsYearTotals, year_part}
use Rattle.ftd_journal.proofs.totals.add_year_totals.Given as goal

abbrev pub invariant-loop-total : goal.invariant-loop-total
invariant-loop-total g l =
    Reads g.S.Store l.fn.tx l.tx (Ok (tt {0}))
    (λ done. SoFar (ListsYearTotals l.fn.name l.total-items) (year_part l.fn.name) l.total-items
    l.total-index l.fn.requests.items l.requests.items)

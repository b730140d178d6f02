use Rattle.std.proofs.Common.{Ok}
use Rattle.ftd_store.specs.Frame.{Reads}
use Rattle.ftd_kept.proofs.TotalsKnown.{SoFarTotals}
use Rattle.ftd_kept.proofs.lists.totals.Given as goal

abbrev pub invariant-loop-total : goal.invariant-loop-total
invariant-loop-total g l =
    Reads g.S.Store l.fn.tx l.tx (Ok (tt {0}))
    (λ done. SoFarTotals l.fn.name l.fn.form l.total-items l.total-index l.totals.items)

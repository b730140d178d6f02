use Rattle.std.proofs.Common.{Ok}
use Rattle.ftd_store.specs.Frame.{Reads}
use Rattle.ftd_kept.proofs.UnappliedKnown.{SoFarUnapplied}
use Rattle.ftd_kept.proofs.unapplied_rows.all_unapplied.Given as goal

abbrev pub invariant-loop-account : goal.invariant-loop-account
invariant-loop-account g l =
    Reads g.S.Store l.fn.tx l.tx (Ok (tt {0}))
    (λ done. SoFarUnapplied l.until l.account-items l.account-index l.rows.items)

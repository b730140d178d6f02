use Rattle.std.proofs.Common.{Ok}
use Rattle.ftd_store.specs.Frame.{Reads}
use Rattle.ftd_entries.proofs.KeptEnrolled.{SoFarTold}
use Rattle.ftd_entries.proofs.account_list.accounts_in_force.Given as goal

abbrev pub invariant-loop-row : goal.invariant-loop-row
invariant-loop-row g l =
    Reads g.S.Store l.fn.tx l.tx (Ok (tt {0}))
    (λ done. SoFarTold l.row-items l.row-index l.rows.items)

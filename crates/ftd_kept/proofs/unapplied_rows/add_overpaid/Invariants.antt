use Rattle.std.proofs.Common.{take}
use Rattle.ftd_kept.specs.Unapplied.{Adds, IsOfOne, IsOverpaidRow}
use Rattle.ftd_kept.proofs.unapplied_rows.add_overpaid.Given as goal

abbrev pub invariant-loop-obligation : goal.invariant-loop-obligation
invariant-loop-obligation l =
    Adds (IsOfOne (IsOverpaidRow l.name l.payments) (take l.obligation-index l.owed))
    l.fn.rows.items l.rows.items

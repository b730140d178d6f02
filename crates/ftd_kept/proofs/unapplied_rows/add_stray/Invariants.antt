use Rattle.std.proofs.Common.{take}
use Rattle.ftd_kept.specs.Unapplied.{Adds, IsOfOne, IsStrayRow}
use Rattle.ftd_kept.proofs.unapplied_rows.add_stray.Given as goal

abbrev pub invariant-loop-row : goal.invariant-loop-row
invariant-loop-row l =
    Adds (IsOfOne (IsStrayRow l.name l.owed) (take l.row-index l.found)) l.fn.rows.items
    l.rows.items

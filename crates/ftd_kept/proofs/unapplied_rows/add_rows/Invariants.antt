use Rattle.std.proofs.Common.{◌≡◌, ◌++◌}
use Rattle.ftd_kept.proofs.unapplied_rows.add_rows.Given as goal

abbrev pub invariant-loop-row : goal.invariant-loop-row
invariant-loop-row l =
    l.rows.items ++ l.row-iterator.rest.items ≡ l.fn.rows.items ++ l.fn.own.items

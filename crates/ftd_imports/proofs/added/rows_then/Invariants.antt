use Rattle.std.proofs.Common.{◌≡◌, take}
use Rattle.std.specs.Prelude.{filter, not}
use Rattle.ftd_imports.specs.Added.{removes}
use Rattle.ftd_imports.proofs.added.rows_then.Given as goal

abbrev pub invariant-loop-row : goal.invariant-loop-row
invariant-loop-row l =
    l.then.items ≡ filter (λ o. not (removes o.first l.change)) (take l.row-index l.rows)

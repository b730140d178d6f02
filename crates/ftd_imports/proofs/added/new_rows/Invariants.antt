use Rattle.std.proofs.Common.{◌≡◌, take}
use Rattle.std.specs.Prelude.{filter, not}
use Rattle.ftd_imports.specs.Added.{changes_in, still_added, was_before}
use Rattle.ftd_imports.proofs.added.new_rows.Given as goal

abbrev pub invariant-loop-row : goal.invariant-loop-row
invariant-loop-row l =
    l.rows.items ≡ filter (λ o. not (was_before (changes_in l.own) o))
    (take l.row-index (still_added (changes_in l.own)))

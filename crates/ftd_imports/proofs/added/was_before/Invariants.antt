use Rattle.std.proofs.Common.{◌≡◌, drop}
use Rattle.ftd_imports.specs.Added.{changes_in, was_before}
use Rattle.ftd_imports.proofs.added.was_before.Given as goal

abbrev pub invariant-loop-change : goal.invariant-loop-change
invariant-loop-change l =
    was_before (changes_in (drop l.change-index l.own)) l.row ≡ was_before (changes_in l.own) l.row

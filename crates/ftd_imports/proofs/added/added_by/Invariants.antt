use Rattle.std.proofs.Common.{◌≡◌, ◌++◌, drop}
use Rattle.ftd_imports.specs.Added.{added_by, added_from}
use Rattle.ftd_imports.proofs.added.added_by.Given as goal

abbrev pub invariant-loop-i : goal.invariant-loop-i
invariant-loop-i l = l.list.items ++ added_from l.changes (drop l.i l.changes) ≡ added_by l.changes

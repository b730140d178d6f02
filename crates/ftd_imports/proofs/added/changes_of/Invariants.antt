use Rattle.std.proofs.Common.{◌≡◌, take}
use Rattle.ftd_imports.specs.Added.{changes_in, changes_of}
use Rattle.ftd_imports.proofs.added.changes_of.Given as goal

abbrev pub invariant-loop-change : goal.invariant-loop-change
invariant-loop-change l =
    changes_in l.own.items ≡ changes_of l.account (take l.change-index l.changes)

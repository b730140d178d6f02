use Rattle.std.proofs.Common.{◌≡◌, take}
use Rattle.ftd_imports.specs.Added.{changes_in, still_added}
use Rattle.ftd_imports.proofs.added.still_added.Given as goal

abbrev pub invariant-loop-change : goal.invariant-loop-change
invariant-loop-change l = l.rows.items ≡ still_added (changes_in (take l.change-index l.own))

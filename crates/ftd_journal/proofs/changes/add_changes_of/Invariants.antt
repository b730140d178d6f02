use Rattle.std.proofs.Common.{◌≡◌, ◌++◌, take}
use Rattle.std.specs.Prelude.{flat_map}
use Rattle.ftd_journal.specs.Days.{changes_on}
use Rattle.ftd_journal.proofs.changes.add_changes_of.Given as goal

abbrev pub invariant-loop-day : goal.invariant-loop-day
invariant-loop-day l =
    l.requests.items ≡ l.fn.requests.items
    ++ flat_map (changes_on l.changes) (take l.day-index l.days)

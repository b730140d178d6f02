use Rattle.std.proofs.Common.{◌≡◌, map, take}
use Rattle.ftd_store.specs.Holidays.{words_on}
use Rattle.ftd_journal.specs.Days.{day_correction}
use Rattle.ftd_journal.proofs.changes.day_corrections.Given as goal

abbrev pub invariant-loop-change : goal.invariant-loop-change
invariant-loop-change l =
    l.given.items ≡ map (day_correction l.day) (words_on l.day (take l.change-index l.changes))

use Rattle.std.proofs.Common.{◌≡◌, true, drop}
use Rattle.ftd_store.specs.Holidays.{last_word, words_on}
use Rattle.ftd_store.proofs.holidays.is_kept.Given as goal

abbrev pub invariant-loop-change : goal.invariant-loop-change
invariant-loop-change l =
    last_word l.is_kept (words_on l.day (drop l.change-index l.changes))
    ≡ last_word true (words_on l.day l.changes)

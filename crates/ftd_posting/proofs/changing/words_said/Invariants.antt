use Rattle.std.proofs.Common.{◌≡◌, ◌++◌, drop}
use Rattle.ftd_store.specs.Holidays.{words_on}
use Rattle.ftd_posting.proofs.changing.words_said.Given as goal

abbrev pub invariant-loop-change : goal.invariant-loop-change
invariant-loop-change l =
    l.words.items ++ words_on l.day (drop l.change-index l.changes) ≡ words_on l.day l.changes

use Rattle.std.proofs.Common.{◌≡◌, take}
use Rattle.ftd_c.proofs.asked.days_of.Given as goal

abbrev pub invariant-loop-number : goal.invariant-loop-number
invariant-loop-number l = l.days.items ≡ take l.number-index l.numbers

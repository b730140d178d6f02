use Rattle.std.proofs.Common.{◌≡◌, take}
use Rattle.ftd_sound.proofs.figures.numbered.Given as goal

abbrev pub invariant-loop-quarter : goal.invariant-loop-quarter
invariant-loop-quarter l = l.numbered.items ≡ take l.quarter-index l.totals

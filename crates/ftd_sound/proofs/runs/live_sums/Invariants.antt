use Rattle.std.proofs.Common.{◌≡◌, take}
use Rattle.ftd_sound.specs.Private.Lines.{sums_in}
use Rattle.ftd_sound.proofs.runs.live_sums.Given as goal

abbrev pub invariant-loop-run : goal.invariant-loop-run
invariant-loop-run l = l.sums.items ≡ sums_in (take l.run-index l.runs)

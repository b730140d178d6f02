use Rattle.std.proofs.Common.{take}
use Rattle.ftd_repairs.specs.Repaired.{AreWithin}
use Rattle.ftd_repairs.proofs.windows.sums_in.Given as goal

abbrev pub invariant-loop-sum : goal.invariant-loop-sum
invariant-loop-sum l = AreWithin l.window (take l.sum-index l.sums) l.within.items

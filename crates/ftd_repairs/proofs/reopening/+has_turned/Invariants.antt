use Rattle.std.proofs.Common.{length}
use Rattle.ftd_repairs.proofs.reopening.+has_turned.Given as goal

abbrev pub decreases-has_turned : goal.decreases-has_turned
decreases-has_turned l = length l.lines.now

use Rattle.std.proofs.Common.{length}
use Rattle.ftd_repairs.proofs.reading.+rise.Given as goal

abbrev pub decreases-rise : goal.decreases-rise
decreases-rise l = length l.rows.now

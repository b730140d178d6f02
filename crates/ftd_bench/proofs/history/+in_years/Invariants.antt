use Rattle.std.proofs.Common.{length}
use Rattle.ftd_bench.proofs.history.+in_years.Given as goal

abbrev pub decreases-in_years : goal.decreases-in_years
decreases-in_years l = length l.sums.now

use Rattle.std.proofs.Common.{length}
use Rattle.ftd_bench.proofs.history.+total_of.Given as goal

abbrev pub decreases-total_of : goal.decreases-total_of
decreases-total_of l = length l.sums.now

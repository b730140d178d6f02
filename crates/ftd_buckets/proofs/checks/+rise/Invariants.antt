use Rattle.std.proofs.Common.{length}
use Rattle.ftd_buckets.proofs.checks.+rise.Given as goal

abbrev pub decreases-rise : goal.decreases-rise
decreases-rise l = length l.sums.now

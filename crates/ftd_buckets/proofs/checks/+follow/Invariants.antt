use Rattle.std.proofs.Common.{length}
use Rattle.ftd_buckets.proofs.checks.+follow.Given as goal

abbrev pub decreases-follow : goal.decreases-follow
decreases-follow l = length l.lines.now

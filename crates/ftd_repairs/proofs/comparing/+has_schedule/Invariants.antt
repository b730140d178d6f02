use Rattle.std.proofs.Common.{length}
use Rattle.ftd_repairs.proofs.comparing.+has_schedule.Given as goal

abbrev pub decreases-has_schedule : goal.decreases-has_schedule
decreases-has_schedule l = length l.lines.now

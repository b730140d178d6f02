use Rattle.std.proofs.Common.{◌-◌}
use Rattle.ftd_bench.proofs.repair.+fed.Given as goal

abbrev pub decreases-fed : goal.decreases-fed
decreases-fed l = 100 - l.windows

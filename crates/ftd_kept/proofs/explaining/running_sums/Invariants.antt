use Rattle.std.proofs.Common.{◌≡◌, ◌<◌, take}
use Rattle.std.specs.List.{sum_by}
use Rattle.ftd_rules.specs.Liability.{cents_of}
use Rattle.ftd_kept.specs.Explained.{AreRunning}
use Rattle.ftd_kept.proofs.explaining.running_sums.Given as goal

abbrev pub invariant-loop-sum : goal.invariant-loop-sum
invariant-loop-sum l = record {
  running : AreRunning 0 (take l.sum-index l.sums) l.rows.items;
  total : l.total ≡ sum_by cents_of (take l.sum-index l.sums);
  small : l.total < 6_000_000_000_000_000;
}

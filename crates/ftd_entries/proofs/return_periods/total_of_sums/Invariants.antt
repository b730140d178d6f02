use Rattle.std.proofs.Common.{◌≡◌, ◌<◌, take}
use Rattle.std.specs.List.{sum_by}
use Rattle.ftd_rules.specs.Liability.{cents_of}
use Rattle.ftd_entries.proofs.return_periods.total_of_sums.Given as goal

abbrev pub invariant-loop-sum : goal.invariant-loop-sum
invariant-loop-sum l = record {
  total : l.total ≡ sum_by cents_of (take l.sum-index l.sums);
  small : l.total < 6_000_000_000_000_000;
}

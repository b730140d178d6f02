use Rattle.std.proofs.Common.{◌≡◌, ◌+◌, ◌<◌, take}
use Rattle.std.specs.List.{sum_by}
use Rattle.ftd_rules.specs.Liability.{cents_of}
use Rattle.ftd_repairs.proofs.windows.total_with.Given as goal

abbrev pub invariant-loop-sum : goal.invariant-loop-sum
invariant-loop-sum l = record {
  total : l.total ≡ l.before + sum_by cents_of (take l.sum-index l.sums);
  small : l.total < 6_000_000_000_000_000;
}

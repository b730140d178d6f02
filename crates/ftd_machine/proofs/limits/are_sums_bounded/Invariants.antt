use Rattle.std.proofs.Common.{◌≡◌, ◌<◌, ◌+◌, drop}
use Rattle.std.specs.List.{sum_by}
use Rattle.ftd_rules.specs.declared.TheConstants.{AMOUNTS_END}
use Rattle.ftd_rules.specs.Liability.{cents_of}
use Rattle.ftd_machine.proofs.limits.are_sums_bounded.Given as goal

abbrev pub invariant-loop-sum : goal.invariant-loop-sum
invariant-loop-sum l = record {
  below : l.total < AMOUNTS_END;
  left : l.total + sum_by cents_of (drop l.sum-index l.sums) ≡ sum_by cents_of l.sums;
}

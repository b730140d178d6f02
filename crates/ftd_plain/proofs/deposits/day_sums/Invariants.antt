use Rattle.std.proofs.Common.{◌≡◌, ◌++◌, map}
use Rattle.std.specs.Prelude.{All}
use Rattle.std.specs.BTreeMap.{values}
use Rattle.ftd_plain.specs.Taking.{IsSmall, sum_of}
use Rattle.ftd_plain.proofs.deposits.day_sums.Given as goal

abbrev pub invariant-loop-pay_run : goal.invariant-loop-pay_run
invariant-loop-pay_run l = record {
  so_far : l.sums.items ++ map sum_of l.pay_run-iterator ≡ map sum_of (values l.runs);
  small : All IsSmall l.pay_run-iterator;
}

use Rattle.std.proofs.Common.{arith}
use Rattle.ftd_rules.specs.Liability.{cents_of}
use Rattle.ftd_store.proofs.Items.{sum_taken}
use Rattle.ftd_entries.proofs.return_periods.total_of_sums.Goals as goal

pub loop-sum-preserved : goal.loop-sum-preserved
loop-sum-preserved c =
    let more = sum_taken cents_of c.args.sums.now c.loop-sum.sum-index c.sum-item.result
    c.loop-sum-test.true c.sum-item.is in
    record { total = omega arith; small = omega arith }

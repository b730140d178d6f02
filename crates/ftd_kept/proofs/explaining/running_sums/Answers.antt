use Rattle.std.proofs.Common.{arith, refl}
use Rattle.ftd_rules.specs.Liability.{cents_of}
use Rattle.ftd_store.proofs.Items.{sum_taken, taken}
use Rattle.ftd_kept.proofs.Paydays.{running_more}
use Rattle.ftd_kept.proofs.explaining.running_sums.Goals as goal

pub loop-sum-preserved : goal.loop-sum-preserved
loop-sum-preserved c =
    let some = c.loop-sum-test.true in
    let more = sum_taken cents_of c.args.sums.now c.loop-sum.sum-index c.sum-item.result some
    c.sum-item.is in
    record {
      running = rw (
        c.in_ok-push.ensures.items,
        taken c.args.sums.now c.loop-sum.sum-index c.sum-item.result some c.sum-item.is,
      )
          (running_more 0 _ c.loop-sum.rows.items c.sum-item.result _ c.loop-sum.invariant.running
          refl refl (omega arith));
      total = omega arith;
      small = omega arith;
    }

use Rattle.std.proofs.Common.{arith}
use Rattle.ftd_rules.specs.Payments.{payment_cents}
use Rattle.ftd_store.proofs.Items.{sum_taken}
use Rattle.ftd_entries.proofs.return_periods.are_below_end.Goals as goal

pub loop-payment-preserved : goal.loop-payment-preserved
loop-payment-preserved c =
    let more = sum_taken payment_cents c.args.payments.now c.loop-payment.payment-index
    c.payment-item.result
    c.loop-payment-test.true c.payment-item.is in
    record { total = omega arith; small = omega arith }

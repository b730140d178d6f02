use Rattle.std.proofs.Common.{◌≡◌, rules, true, false}
use Rattle.ftd_kept.specs.Payments.{IsPaymentFor, is_live_payment}
use Rattle.ftd_store.proofs.Items.{kept_pair, left_pair}
use Rattle.ftd_kept.proofs.payment_rows.live_payments.Goals as goal
use Rattle.ftd_kept.proofs.payment_rows.live_payments.Goals.{then-not-row+in_ok-push, else-not-row}

pub loop-row-preserved : goal.loop-row-preserved
loop-row-preserved c =
    elim c.if-not-row.branch [
      | then-not-row+in_ok-push w ↦
          (let live : is_live_payment c.row-item.result ≡ true = search rules in
          rw (w.payments-is, w.in_ok-push.ensures.items)
          (kept_pair (IsPaymentFor c.args.first) is_live_payment c.args.rows.now _
          c.loop-row.row-index c.row-item.result c.loop-row-test.true c.row-item.is
          c.loop-row.invariant w.kept_payment.result live w.kept_payment.ensures))
      | else-not-row w ↦
          (let void : is_live_payment c.row-item.result ≡ false = search rules in
          rw w.payments-is (left_pair (IsPaymentFor c.args.first) is_live_payment c.args.rows.now _
          c.loop-row.row-index c.row-item.result c.loop-row-test.true c.row-item.is
          c.loop-row.invariant void))
    ]

use Rattle.std.proofs.Common.{arith, List}
use Rattle.std.proofs.lemmas.List.Sums.{sum_by_more, sum_by_more_le_part}
use Rattle.ftd_rules.specs.declared.payment.Payment.{Payment}
use Rattle.ftd_rules.specs.Payments.{counts_by, payment_cents}
use Rattle.ftd_rules.proofs.Paid.{counts_most}
use Rattle.ftd_rules.proofs.payment.paid_by.Goals as goal

pub overflow_add-total : goal.overflow_add-total
overflow_add-total c =
    let xs : List Payment = c.args.payments.now in
    let x : Payment = c.payment-item.result in
    let i = c.loop-payment.payment-index in
    let most = counts_most c.args.first c.args.last c.min-known_by.result in
    let part = rw (← c.payment-item.is) at
    (sum_by_more_le_part (counts_by c.args.first c.args.last c.min-known_by.result) payment_cents xs
    i x c.loop-payment-test.true most) in
    let here = most x in
    let so_far = c.loop-payment.invariant in
    omega arith

pub loop-payment-preserved : goal.loop-payment-preserved
loop-payment-preserved c =
    let xs : List Payment = c.args.payments.now in
    let x : Payment = c.payment-item.result in
    let i = c.loop-payment.payment-index in
    let more = rw (← c.payment-item.is) at
    (sum_by_more (counts_by c.args.first c.args.last c.min-known_by.result) xs i x
    c.loop-payment-test.true) in
    let so_far = c.loop-payment.invariant in
    omega arith

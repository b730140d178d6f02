use Rattle.std.proofs.Common.{◌≡◌, ◌+◌, arith, drop, take}
use Rattle.std.proofs.lemmas.Bool.Decides.{nat_tests}
use Rattle.ftd_program.specs.Settling.{ended}
use Rattle.ftd_program.proofs.OpenYears.{split_at}
use Rattle.ftd_program.proofs.Settled.{paid_next}
use Rattle.ftd_program.proofs.settle.pay_each.Goals as goal

pub returns-then-end-ne0 : goal.returns-then-end-ne0
returns-then-end-ne0 g c =
    let i = c.loop-payment.payment-index in
    let is = c.if-end-ne0.true in
    let some : c.pay_one-end.result.status ≡ 0 → ⊥ = grind (arith, nat_tests, is) in
    ended (take i c.args.payments.now) (drop (i + 1) c.args.payments.now) c.payment-item.result
    c.loop-payment.out c.loop-payment.err c.loop-payment.desk
    (split_at c.args.payments.now i c.payment-item.result c.loop-payment-test.true
    c.payment-item.is)
    c.loop-payment.invariant.paid c.pay_one-end.ensures some

pub loop-payment-preserved : goal.loop-payment-preserved
loop-payment-preserved g c =
    let is = c.if-end-ne0.false in
    let zero : c.pay_one-end.result.status ≡ 0 = grind (arith, nat_tests, is) in
    record {
      paid = paid_next g.S.Store g.O.Target.taken g.O.Target.failed g.E.Target.taken
          g.E.Target.failed c.args.paying.db.now c.args.paying.asked.now.account
          c.args.paying.asked.now.due c.args.out c.loop-payment.out c.args.err c.loop-payment.err
          c.args.desk.now c.loop-payment.desk c.pay_one-end.new.desk c.args.payments.now
          c.loop-payment.payment-index c.payment-item.result c.pay_one-end.result
          c.loop-payment-test.true c.payment-item.is c.loop-payment.invariant.paid
          c.pay_one-end.ensures zero;
    }

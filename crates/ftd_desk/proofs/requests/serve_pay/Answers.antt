use Rattle.std.proofs.Common.{rules}
use Rattle.ftd_store.specs.Finds.{CountsPayments}
use Rattle.ftd_desk.specs.Kept.{kept_of}
use Rattle.ftd_desk.proofs.Counting.{not_known, known_fails, pay_counts}
use Rattle.ftd_desk.proofs.requests.serve_pay.Goals as goal

pub returns-in_err-count : goal.returns-in_err-count
returns-in_err-count g c = record {
  call = not_known g.S.Store c.args.tx.now c.count_payments.new.tx
      (kept_of c.args.counts.payments c.args.name.now) (CountsPayments c.args.name.now)
      c.in_err-count.field-0.0 c.from_residual.result _ (search rules)
      c.in_err-count.ensures;
}

pub returns-in_err-answer : goal.returns-in_err-answer
returns-in_err-answer g c = record {
  call = known_fails g.S.Store c.args.tx.now c.count_payments.new.tx
      (kept_of c.args.counts.payments c.args.name.now) (CountsPayments c.args.name.now) c.pay.new.tx
      c.in_ok-count.count c.in_err-answer.field-0.0
      c.from_residual-in_err-answer.result _ (search rules) c.in_ok-count.ensures
      c.in_err-answer.ensures.call.frame;
}

pub returns : goal.returns
returns g c = record {
  call = pay_counts g.S.Store c.args.tx.now c.count_payments.new.tx c.pay.new.tx c.in_ok-count.count
      c.in_ok-answer.answer c.args.counts c.keep.new.self c.args.name.now c.args.number
      c.args.payment
      c.keep.ensures c.in_ok-count.ensures c.in_ok-answer.ensures.call;
}

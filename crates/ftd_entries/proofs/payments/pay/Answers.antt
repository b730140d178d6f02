use Rattle.std.proofs.Common.{rules}
use Rattle.ftd_machine.specs.declared.requests.Request.TheVariants.{Pay}
use Rattle.ftd_store.specs.Finds.{CountsPayments}
use Rattle.ftd_entries.proofs.Serving.{served_looked_where, served_changed_where}
use Rattle.ftd_entries.proofs.Paying.{pay_decided, pay_done}
use Rattle.ftd_entries.proofs.payments.pay.Goals as goal

pub returns-in-Err : goal.returns-in-Err
returns-in-Err g c = record {
  call = served_looked_where (CountsPayments c.args.name.now c.args.count)
      (Pay c.args.name.now c.args.number c.args.payment) _
      c.in_ok-before.ensures.call (pay_decided c.args.name.now c.args.number c.args.payment
      c.args.count c.in_ok-before.before c.in-Err.answer (search rules));
}

pub returns : goal.returns
returns g c = record {
  call = served_changed_where (CountsPayments c.args.name.now c.args.count)
      (Pay c.args.name.now c.args.number c.args.payment) _
      c.in_ok-before.ensures.call c.in_ok-add_payment.ensures.call (pay_done c.args.name.now
      c.args.number c.args.payment c.args.count c.in_ok-before.before (search rules));
}

use Rattle.std.proofs.Common.{rules}
use Rattle.ftd_machine.specs.declared.requests.Request.TheVariants.{VoidPay}
use Rattle.ftd_entries.proofs.Reading.{both_read, one_written}
use Rattle.ftd_entries.proofs.Serving.{served_looked, served_changed}
use Rattle.ftd_entries.proofs.Paying.{void_decided, void_done}
use Rattle.ftd_entries.proofs.payments.void_payment.Goals as goal

pub returns-in-Err : goal.returns-in-Err
returns-in-Err g c = record {
  call = served_looked
      (VoidPay c.args.name.now c.args.number) _ (both_read c.in_ok-account.ensures.call
      c.in_ok-kept.ensures.call)
      (void_decided c.args.name.now c.args.number (c.in_ok-account.account, c.in_ok-kept.kept)
      c.in-Err.answer
      (search rules));
}

pub returns : goal.returns
returns g c = record {
  call = served_changed
      (VoidPay c.args.name.now c.args.number) _ (both_read c.in_ok-account.ensures.call
      c.in_ok-kept.ensures.call)
      (one_written c.in_ok-void_payment.ensures.call) (void_done c.args.name.now c.args.number
      (c.in_ok-account.account, c.in_ok-kept.kept) (search rules));
}

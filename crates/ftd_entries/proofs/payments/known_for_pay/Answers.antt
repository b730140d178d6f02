use Rattle.std.proofs.Common.{subst}
use Rattle.ftd_entries.specs.Known.{KnowsYear}
use Rattle.ftd_entries.proofs.Reading.{three_told}
use Rattle.ftd_entries.proofs.payments.known_for_pay.Goals as goal

pub returns : goal.returns
returns g c = record {
  call = three_told c.in_ok-account.ensures.call c.in_ok-payment.ensures.call
      c.in_ok-is_open.ensures.call _ _ (λ t account payment opened. record {
        account = account;
        payment = payment;
        is_open = subst (λ year. KnowsYear c.args.name.now year c.in_ok-is_open.is_open t)
            c.year.ensures opened;
      });
}

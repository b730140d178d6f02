use Rattle.std.proofs.Common.{pos, false, rules}
use Rattle.ftd_store.specs.Rows.{payment_row}
use Rattle.ftd_store.proofs.tx.Tx.add_payment.Goals as goal

pub returns : goal.returns
returns g c =
    record {
      call = c.add.ensures.call
          (payment_row c.args.account.now (pos c.args.number) c.args.payment false)
          (search rules);
    }

use Rattle.std.proofs.Common.{pos, rules}
use Rattle.ftd_sql.proofs.Meanings.{shows_payment}
use Rattle.ftd_store.proofs.Same.{payment_is}
use Rattle.ftd_store.proofs.Telling.{finds}
use Rattle.ftd_store.proofs.tx.Tx.payment.Goals as goal

pub returns : goal.returns
returns g c = record {
  call = finds _ _ (shows_payment c.args.account.now (pos c.args.number))
      (payment_is c.args.account.now c.args.number) (search rules);
}

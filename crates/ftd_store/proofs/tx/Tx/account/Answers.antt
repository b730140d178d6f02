use Rattle.std.proofs.Common.{rules}
use Rattle.ftd_sql.proofs.Meanings.{shows_account}
use Rattle.ftd_store.proofs.Same.{account_is}
use Rattle.ftd_store.proofs.Telling.{finds}
use Rattle.ftd_store.proofs.tx.Tx.account.Goals as goal

pub returns : goal.returns
returns g c = record {
  call = finds _ _ (shows_account c.args.name.now) (account_is c.args.name.now) (search rules);
}

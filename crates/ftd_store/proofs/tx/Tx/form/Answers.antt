use Rattle.std.proofs.Common.{rules}
use Rattle.ftd_sql.proofs.Meanings.{shows_form}
use Rattle.ftd_store.proofs.Same.{form_is}
use Rattle.ftd_store.proofs.Telling.{finds}
use Rattle.ftd_store.proofs.tx.Tx.form.Goals as goal

pub returns : goal.returns
returns g c = record {
  call = finds _ _ (shows_form c.args.account.now) (form_is c.args.account.now) (search rules);
}

use Rattle.std.proofs.Common.{pos, rules}
use Rattle.ftd_sql.proofs.Meanings.{shows_reported_year}
use Rattle.ftd_store.proofs.Same.{reported_year_is}
use Rattle.ftd_store.proofs.Telling.{finds}
use Rattle.ftd_store.proofs.tx.Tx.reported_year_total.Goals as goal

pub returns : goal.returns
returns g c = record {
  call = finds _ _ (shows_reported_year c.args.account.now (pos c.args.year))
      (reported_year_is c.args.account.now c.args.year) (search rules);
}

use Rattle.std.proofs.Common.{pos, rules}
use Rattle.ftd_sql.proofs.Meanings.{shows_run}
use Rattle.ftd_store.proofs.Same.{run_is}
use Rattle.ftd_store.proofs.Telling.{finds}
use Rattle.ftd_store.proofs.tx.Tx.run.Goals as goal

pub returns : goal.returns
returns g c = record {
  call = finds _ _ (shows_run c.args.account.now (pos c.args.number))
      (run_is c.args.account.now c.args.number) (search rules);
}

use Rattle.std.proofs.Common.{pos, rules}
use Rattle.ftd_sql.proofs.Meanings.{shows_reported}
use Rattle.ftd_days.specs.Calendar.{quarter_year, quarter_number}
use Rattle.ftd_store.proofs.Same.{reported_is}
use Rattle.ftd_store.proofs.Telling.{finds}
use Rattle.ftd_store.proofs.tx.Tx.reported_total.Goals as goal

pub returns : goal.returns
returns g c = record {
  call = finds _ _
      (shows_reported c.args.account.now (pos (quarter_year c.args.quarter))
      (pos (quarter_number c.args.quarter))) (reported_is c.args.account.now c.args.quarter)
      (search rules);
}

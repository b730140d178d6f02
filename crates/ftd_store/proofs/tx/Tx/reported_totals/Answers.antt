use Rattle.std.proofs.Common.{rules}
use Rattle.ftd_store.specs.Kept.{IsQuarterTotal}
use Rattle.ftd_sql.specs.declared.TableName.TheVariants.{ReportedQuarters}
use Rattle.ftd_sql.proofs.Meanings.{reported_in_order}
use Rattle.ftd_store.proofs.SameKept.{quarter_total_is}
use Rattle.ftd_store.proofs.Telling.{lists}
use Rattle.ftd_store.proofs.tx.Tx.reported_totals.Goals as goal

pub returns : goal.returns
returns g c = record {
  call = lists (λ xs. xs.items) ReportedQuarters _ (IsQuarterTotal c.args.account.now)
      (reported_in_order c.args.account.now) (quarter_total_is c.args.account.now) (search rules);
}

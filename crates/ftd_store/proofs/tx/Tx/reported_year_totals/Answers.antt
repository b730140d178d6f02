use Rattle.std.proofs.Common.{rules}
use Rattle.ftd_store.specs.Kept.{IsYearTotal}
use Rattle.ftd_sql.specs.declared.TableName.TheVariants.{ReportedYears}
use Rattle.ftd_sql.proofs.Meanings.{reported_years_in_order}
use Rattle.ftd_store.proofs.SameKept.{year_total_is}
use Rattle.ftd_store.proofs.Telling.{lists}
use Rattle.ftd_store.proofs.tx.Tx.reported_year_totals.Goals as goal

pub returns : goal.returns
returns g c = record {
  call = lists (λ xs. xs.items) ReportedYears _ (IsYearTotal c.args.account.now)
      (reported_years_in_order c.args.account.now) (year_total_is c.args.account.now)
      (search rules);
}

use Rattle.std.proofs.Common.{rules}
use Rattle.ftd_sql.specs.declared.TableName.TheVariants.{ReportedYears}
use Rattle.ftd_sql.specs.Tests.{is_reported_year_of}
use Rattle.ftd_sql.proofs.RowOrder.{reported_years_in_row_order}
use Rattle.ftd_store.specs.KeptRows.{IsYearTotalCells}
use Rattle.ftd_store.specs.Added.{year_total_row}
use Rattle.ftd_store.proofs.SameKept.{year_total_is}
use Rattle.ftd_store.proofs.TellingAdded.{reads_rows}
use Rattle.ftd_store.proofs.tx.Tx.reported_years_by_row.Goals as goal

pub returns : goal.returns
returns g c = record {
  call = reads_rows {n = ReportedYears} (is_reported_year_of c.args.account.now) IsYearTotalCells
      (year_total_row c.args.account.now)
      (reported_years_in_row_order c.args.account.now) (year_total_is c.args.account.now)
      (search rules);
}

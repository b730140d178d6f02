use Rattle.std.proofs.Common.{rules}
use Rattle.ftd_sql.specs.declared.TableName.TheVariants.{CorrectedYears}
use Rattle.ftd_sql.specs.Tests.{is_year_correction_of}
use Rattle.ftd_sql.proofs.RowOrder.{year_corrections_in_row_order}
use Rattle.ftd_store.specs.AddedRows.{IsYearCorrectionCells}
use Rattle.ftd_store.specs.Added.{listed_year_correction_row}
use Rattle.ftd_store.proofs.SameAdded.{added_year_correction_is}
use Rattle.ftd_store.proofs.TellingAdded.{reads_rows}
use Rattle.ftd_store.proofs.tx.Tx.year_corrections_by_row.Goals as goal

pub returns : goal.returns
returns g c = record {
  call = reads_rows {n = CorrectedYears} (is_year_correction_of c.args.account.now)
      IsYearCorrectionCells
      (listed_year_correction_row c.args.account.now)
      (year_corrections_in_row_order c.args.account.now)
      (added_year_correction_is c.args.account.now)
      (search rules);
}

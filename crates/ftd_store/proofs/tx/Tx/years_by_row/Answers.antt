use Rattle.std.proofs.Common.{rules}
use Rattle.ftd_sql.specs.declared.TableName.TheVariants.{Years}
use Rattle.ftd_sql.specs.Tests.{is_year_of}
use Rattle.ftd_sql.proofs.RowOrder.{years_in_row_order}
use Rattle.ftd_store.specs.Cells.{IsYearCells}
use Rattle.ftd_store.specs.Added.{stored_year_row}
use Rattle.ftd_store.proofs.SameAdded.{added_open_year_is}
use Rattle.ftd_store.proofs.TellingAdded.{reads_rows}
use Rattle.ftd_store.proofs.tx.Tx.years_by_row.Goals as goal

pub returns : goal.returns
returns g c = record {
  call = reads_rows {n = Years} (is_year_of c.args.account.now) IsYearCells
      (stored_year_row c.args.account.now)
      (years_in_row_order c.args.account.now) (added_open_year_is c.args.account.now)
      (search rules);
}

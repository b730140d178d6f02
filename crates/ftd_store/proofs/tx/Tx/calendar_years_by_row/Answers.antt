use Rattle.ftd_sql.specs.declared.TableName.TheVariants.{CalendarYears}
use Rattle.ftd_sql.proofs.RowOrder.{calendar_years_in_row_order}
use Rattle.ftd_store.specs.Cells.{IsCountCells}
use Rattle.ftd_store.specs.Rows.{calendar_year_row}
use Rattle.ftd_store.proofs.SameAdded.{added_year_is}
use Rattle.ftd_store.proofs.TellingAdded.{reads_all_rows}
use Rattle.ftd_store.proofs.tx.Tx.calendar_years_by_row.Goals as goal

pub returns : goal.returns
returns g c = record {
  call = reads_all_rows CalendarYears IsCountCells calendar_year_row calendar_years_in_row_order
      added_year_is c.read_values.ensures.call;
}

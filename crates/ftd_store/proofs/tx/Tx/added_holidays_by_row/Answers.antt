use Rattle.ftd_sql.specs.declared.TableName.TheVariants.{AddedHolidays}
use Rattle.ftd_sql.proofs.RowOrder.{added_holidays_in_row_order}
use Rattle.ftd_store.specs.AddedRows.{IsYearHolidayCells}
use Rattle.ftd_store.specs.Added.{year_holiday_row}
use Rattle.ftd_store.proofs.SameAdded.{added_holiday_is}
use Rattle.ftd_store.proofs.TellingAdded.{reads_all_rows}
use Rattle.ftd_store.proofs.tx.Tx.added_holidays_by_row.Goals as goal

pub returns : goal.returns
returns g c = record {
  call = reads_all_rows AddedHolidays IsYearHolidayCells year_holiday_row
      added_holidays_in_row_order added_holiday_is c.read_values.ensures.call;
}

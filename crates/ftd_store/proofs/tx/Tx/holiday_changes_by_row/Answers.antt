use Rattle.ftd_sql.specs.declared.TableName.TheVariants.{ChangedHolidays}
use Rattle.ftd_sql.proofs.RowOrder.{holiday_changes_in_row_order}
use Rattle.ftd_store.specs.AddedRows.{IsYearHolidayChangeCells}
use Rattle.ftd_store.specs.Added.{year_holiday_change_row}
use Rattle.ftd_store.proofs.SameAdded.{added_change_is}
use Rattle.ftd_store.proofs.TellingAdded.{reads_all_rows}
use Rattle.ftd_store.proofs.tx.Tx.holiday_changes_by_row.Goals as goal

pub returns : goal.returns
returns g c = record {
  call = reads_all_rows ChangedHolidays IsYearHolidayChangeCells year_holiday_change_row
      holiday_changes_in_row_order added_change_is c.read_values.ensures.call;
}

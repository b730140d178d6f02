-- A row that shows the cells of a value is the value's row, where rows are read in the order in
-- which they were added.
use Rattle.std.proofs.Common.{◌≡◌, ℕ, List, false, rules}
use Rattle.ftd_sql.specs.Rows.{CalendarYearRow, HolidayRow, ChangedHolidayRow}
use Rattle.ftd_sql.specs.Answers.{quarter_correction_shown, year_correction_shown}
use Rattle.ftd_sql.specs.Answers.{calendar_year_shown, year_holiday_shown}
use Rattle.ftd_sql.specs.Answers.{year_holiday_change_shown, year_shown, kept_run_shown}
use Rattle.ftd_sql.specs.Answers.{kept_payment_shown, obligation_shown}
use Rattle.ftd_sql.specs.Tests.{is_correction_of, is_year_correction_of, is_year_of, is_run_of}
use Rattle.ftd_sql.specs.Tests.{is_payment_of, is_obligation_of_account}
use Rattle.ftd_store.specs.declared.added_cells.YearHoliday.{YearHoliday}
use Rattle.ftd_store.specs.declared.added_cells.YearHolidayChange.{YearHolidayChange}
use Rattle.ftd_store.specs.Cells.{count_cells, year_cells, obligation_cells}
use Rattle.ftd_store.specs.KeptRows.{numbered_run_cells, numbered_payment_cells}
use Rattle.ftd_store.specs.AddedRows.{quarter_correction_cells, year_correction_cells}
use Rattle.ftd_store.specs.AddedRows.{year_holiday_cells, year_holiday_change_cells}
use Rattle.ftd_store.specs.Rows.{calendar_year_row, obligation_row}
use Rattle.ftd_store.specs.Added.{quarter_correction_row, listed_year_correction_row}
use Rattle.ftd_store.specs.Added.{year_holiday_row, year_holiday_change_row, stored_year_row}
use Rattle.ftd_store.specs.Added.{numbered_run_row, numbered_payment_row}
use Rattle.ftd_store.proofs.Same.{IsTold, row_told}
use Rattle.ftd_store.proofs.YearRows.{stored_year_is}

-- ---- all rows

pub added_year_is : (x : CalendarYearRow) (n : ℕ) → calendar_year_shown x ≡ count_cells n
    → x ≡ calendar_year_row n
added_year_is x n h = search rules

pub added_holiday_is : (x : HolidayRow) (h : YearHoliday)
    → year_holiday_shown x ≡ year_holiday_cells h → x ≡ year_holiday_row h
added_holiday_is x h e = search rules

pub added_change_is : (x : ChangedHolidayRow) (c : YearHolidayChange)
    → year_holiday_change_shown x ≡ year_holiday_change_cells c → x ≡ year_holiday_change_row c
added_change_is x c h = search rules

-- ---- the rows of an account

pub added_correction_is : (account : List ℕ) → IsTold (is_correction_of account)
    quarter_correction_shown quarter_correction_cells
    (λ x c. x ≡ quarter_correction_row account c)
added_correction_is account x c passes h = search row_told

pub added_year_correction_is : (account : List ℕ) → IsTold (is_year_correction_of account)
    year_correction_shown year_correction_cells (λ x c. x ≡ listed_year_correction_row account c)
added_year_correction_is account x c passes h = search row_told

pub added_open_year_is : (account : List ℕ) → IsTold (is_year_of account) year_shown year_cells
    (λ x y. x ≡ stored_year_row account y)
added_open_year_is account x y passes h = stored_year_is account x y passes h false

pub added_run_is : (account : List ℕ) → IsTold (is_run_of account) kept_run_shown
    numbered_run_cells (λ x r. x ≡ numbered_run_row account r)
added_run_is account x r passes h = search row_told

pub added_payment_is : (account : List ℕ) → IsTold (is_payment_of account) kept_payment_shown
    numbered_payment_cells (λ x p. x ≡ numbered_payment_row account p)
added_payment_is account x p passes h = search row_told

pub added_obligation_is : (account : List ℕ) → IsTold (is_obligation_of_account account)
    obligation_shown obligation_cells (λ x o. x ≡ obligation_row account o)
added_obligation_is account x o passes h = search row_told

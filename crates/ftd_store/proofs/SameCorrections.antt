-- The row that a listed correction, or change of a holiday, stands for.
use Rattle.std.proofs.Common.{ℕ, pos, List}
use Rattle.ftd_days.specs.Calendar.{quarter_year, quarter_number}
use Rattle.ftd_sql.specs.Answers.{correction_shown}
use Rattle.ftd_sql.specs.Answers.{correction_of_year_shown}
use Rattle.ftd_sql.specs.Answers.{account_correction_shown, holiday_change_shown}
use Rattle.ftd_sql.specs.Tests.{is_correction, is_year_correction}
use Rattle.ftd_sql.specs.Tests.{is_account_correction_of}
use Rattle.ftd_sql.specs.Tests.{is_holiday_change_of}
use Rattle.ftd_store.specs.CorrectionRows.{correction_cells}
use Rattle.ftd_store.specs.CorrectionRows.{account_correction_cells}
use Rattle.ftd_store.specs.CorrectionRows.{holiday_change_cells}
use Rattle.ftd_store.specs.Corrections.{IsCorrection, IsCorrectionOfYear}
use Rattle.ftd_store.specs.Corrections.{IsAccountCorrection, IsHolidayChange}
use Rattle.ftd_store.proofs.Same.{IsTold, row_told}

pub correction_is : (account : List ℕ) (quarter : ℕ)
    → IsTold (is_correction account (pos (quarter_year quarter)) (pos (quarter_number quarter)))
    correction_shown correction_cells (IsCorrection account quarter)
correction_is account quarter x c passes h = search row_told

pub correction_of_year_is : (account : List ℕ) (year : ℕ)
    → IsTold (is_year_correction account (pos year)) correction_of_year_shown correction_cells
    (IsCorrectionOfYear account year)
correction_of_year_is account year x c passes h = search row_told

pub account_correction_is : (account : List ℕ) → IsTold (is_account_correction_of account)
    account_correction_shown account_correction_cells (IsAccountCorrection account)
account_correction_is account x c passes h = search row_told

pub holiday_change_is : (year : ℕ) → IsTold (is_holiday_change_of (pos year)) holiday_change_shown
    holiday_change_cells (IsHolidayChange year)
holiday_change_is year x c passes h = search row_told

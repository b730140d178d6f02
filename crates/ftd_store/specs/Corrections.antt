-- What a list of what was put right tells of the tables.
use Rattle.std.specs.Prelude.{◌≡◌, ℕ, pos, List, Vec, filter}
use Rattle.ftd_sql.specs.Orders.{CorrectionsRise, YearCorrectionsRise}
use Rattle.ftd_sql.specs.Orders.{AccountCorrectionsRise}
use Rattle.ftd_sql.specs.Orders.{HolidayChangesRise}
use Rattle.ftd_sql.specs.Rows.{CorrectedQuarterRow, CorrectedYearRow, CorrectedAccountRow}
use Rattle.ftd_sql.specs.Rows.{ChangedHolidayRow}
use Rattle.ftd_sql.specs.Standing.{Tables}
use Rattle.ftd_sql.specs.Tests.{is_correction, is_year_correction}
use Rattle.ftd_sql.specs.Tests.{is_account_correction_of}
use Rattle.ftd_sql.specs.Tests.{is_holiday_change_of}
use Rattle.ftd_sql.specs.declared.TableName.TheVariants.{CorrectedQuarters, CorrectedYears}
use Rattle.ftd_sql.specs.declared.TableName.TheVariants.{ChangedHolidays, CorrectedAccounts}
use Rattle.ftd_days.specs.Calendar.{quarter_year, quarter_number}
use Rattle.ftd_store.specs.Lists.{Lists}
use Rattle.ftd_store.specs.Rows.{correction_row, year_correction_row, account_correction_row}
use Rattle.ftd_store.specs.Rows.{holiday_change_row}
use Rattle.ftd_store.specs.declared.correction_cells.AccountCorrection.{AccountCorrection}
use Rattle.ftd_store.specs.declared.correction_cells.Correction.{Correction}
use Rattle.ftd_store.specs.declared.correction_cells.HolidayChange.{HolidayChange}

-- ---- totals of quarters

-- the corrections of the total of the account's quarter, by number
abbrev pub IsCorrection : List ℕ → ℕ → CorrectedQuarterRow → Correction → Type 0
IsCorrection account quarter row c = row ≡ correction_row account quarter c

abbrev pub ListsCorrections : {A : Type 0} → List ℕ → ℕ → Vec Correction A → Tables → Type 0
ListsCorrections account quarter listed t =
    Lists CorrectionsRise (IsCorrection account quarter)
    (filter (is_correction account (pos (quarter_year quarter)) (pos (quarter_number quarter)))
    (t CorrectedQuarters)) listed.items

-- ---- totals of years

-- the corrections of the total of the account's year, by number
abbrev pub IsCorrectionOfYear : List ℕ → ℕ → CorrectedYearRow → Correction → Type 0
IsCorrectionOfYear account year row c = row ≡ year_correction_row account year c

abbrev pub ListsYearCorrections : {A : Type 0} → List ℕ → ℕ → Vec Correction A → Tables → Type 0
ListsYearCorrections account year listed t =
    Lists YearCorrectionsRise (IsCorrectionOfYear account year)
    (filter (is_year_correction account (pos year)) (t CorrectedYears)) listed.items

-- ---- accounts and holidays

-- the corrections of the account, by number
abbrev pub IsAccountCorrection : List ℕ → CorrectedAccountRow → AccountCorrection → Type 0
IsAccountCorrection account row c = row ≡ account_correction_row account c

abbrev pub ListsAccountCorrections : {A : Type 0} → List ℕ → Vec AccountCorrection A → Tables
    → Type 0
ListsAccountCorrections account listed t =
    Lists AccountCorrectionsRise (IsAccountCorrection account)
    (filter (is_account_correction_of account) (t CorrectedAccounts)) listed.items

-- the changes of the days of the year, by day and number
abbrev pub IsHolidayChange : ℕ → ChangedHolidayRow → HolidayChange → Type 0
IsHolidayChange year row c = row ≡ holiday_change_row year c

abbrev pub ListsHolidayChanges : {A : Type 0} → ℕ → Vec HolidayChange A → Tables → Type 0
ListsHolidayChanges year listed t =
    Lists HolidayChangesRise (IsHolidayChange year)
    (filter (is_holiday_change_of (pos year)) (t ChangedHolidays)) listed.items

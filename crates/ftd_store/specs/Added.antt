-- What is read of the rows of a table in the order in which they were added.
use Rattle.std.specs.Prelude.{◌≡◌, ℕ, pos, false, List, map, filter, length, Option, None, Some}
use Rattle.std.specs.Prelude.{Vec, string_bytes}
use Rattle.std.specs.List.{All}
use Rattle.sqlite.specs.Order.{Row}
use Rattle.ftd_rules.specs.declared.Form.{Form}
use Rattle.ftd_rules.specs.declared.Obligation.{Obligation}
use Rattle.ftd_sql.specs.Answers.{enrolled_shown, form_shown, account_correction_shown}
use Rattle.ftd_sql.specs.Answers.{quarter_total_shown, year_total_shown, quarter_correction_shown}
use Rattle.ftd_sql.specs.Answers.{year_correction_shown, calendar_year_shown, year_holiday_shown}
use Rattle.ftd_sql.specs.Answers.{year_holiday_change_shown, year_shown, kept_run_shown}
use Rattle.ftd_sql.specs.Answers.{kept_payment_shown, obligation_shown}
use Rattle.ftd_sql.specs.Rows.{AccountRow, ReportedQuarterRow, ReportedYearRow, YearRow}
use Rattle.ftd_sql.specs.Rows.{CorrectedQuarterRow, CorrectedYearRow, HolidayRow, RunRow}
use Rattle.ftd_sql.specs.Rows.{ChangedHolidayRow, PaymentRow}
use Rattle.ftd_sql.specs.Standing.{Tables}
use Rattle.ftd_sql.specs.declared.TableName.{TableName}
use Rattle.ftd_sql.specs.Tests.{is_form_of, is_account_correction_of, is_reported_of}
use Rattle.ftd_sql.specs.Tests.{is_reported_year_of, is_correction_of, is_year_correction_of}
use Rattle.ftd_sql.specs.Tests.{is_year_of, is_run_of, is_payment_of, is_obligation_of_account}
use Rattle.ftd_sql.specs.declared.TableName.TheVariants.{Accounts, Forms, CorrectedAccounts}
use Rattle.ftd_sql.specs.declared.TableName.TheVariants.{ReportedQuarters, ReportedYears}
use Rattle.ftd_sql.specs.declared.TableName.TheVariants.{CorrectedQuarters, CorrectedYears}
use Rattle.ftd_sql.specs.declared.TableName.TheVariants.{CalendarYears, Holidays, AddedHolidays}
use Rattle.ftd_sql.specs.declared.TableName.TheVariants.{ChangedHolidays, Years, Runs, Payments}
use Rattle.ftd_sql.specs.declared.TableName.TheVariants.{Obligations}
use Rattle.ftd_store.specs.AddedRows.{IsQuarterCorrectionCells, IsYearCorrectionCells}
use Rattle.ftd_store.specs.AddedRows.{IsYearHolidayCells, IsYearHolidayChangeCells}
use Rattle.ftd_store.specs.Cells.{IsFormCells, IsCountCells, IsYearCells, IsObligationCells}
use Rattle.ftd_store.specs.CorrectionRows.{IsAccountCorrectionCells}
use Rattle.ftd_store.specs.KeptRows.{IsNamedAccountCells, IsQuarterTotalCells, IsYearTotalCells}
use Rattle.ftd_store.specs.KeptRows.{IsNumberedRunCells, IsNumberedPaymentCells}
use Rattle.ftd_store.specs.Rows.{account_row, form_row, reported_row, reported_year_row}
use Rattle.ftd_store.specs.Rows.{correction_row, year_correction_row, account_correction_row}
use Rattle.ftd_store.specs.Rows.{holiday_change_row, calendar_year_row, holiday_row, year_row}
use Rattle.ftd_store.specs.Rows.{run_row, payment_row, obligation_row}
use Rattle.ftd_store.specs.Years.{year_line}
use Rattle.ftd_store.specs.declared.added_cells.QuarterCorrection.{QuarterCorrection}
use Rattle.ftd_store.specs.declared.added_cells.YearCorrection.{YearCorrection}
use Rattle.ftd_store.specs.declared.added_cells.YearHoliday.{YearHoliday}
use Rattle.ftd_store.specs.declared.added_cells.YearHolidayChange.{YearHolidayChange}
use Rattle.ftd_store.specs.declared.correction_cells.AccountCorrection.{AccountCorrection}
use Rattle.ftd_store.specs.declared.kept_cells.NamedAccount.{NamedAccount}
use Rattle.ftd_store.specs.declared.kept_cells.NumberedPayment.{NumberedPayment}
use Rattle.ftd_store.specs.declared.kept_cells.NumberedRun.{NumberedRun}
use Rattle.ftd_store.specs.declared.kept_cells.QuarterTotal.{QuarterTotal}
use Rattle.ftd_store.specs.declared.kept_cells.YearTotal.{YearTotal}
use Rattle.ftd_store.specs.declared.year_cells.StoredYear.{StoredYear}

-- what was read of an answer: the values that its rows show, or None where a row shows no value
abbrev pub AreValues : {Y A : Type 0} → (Y → Row) → (Row → Type 0) → Option (Vec Y A) → List Row
    → Type 0
AreValues seen IsReadable None rows = ¬ All IsReadable rows
AreValues seen IsReadable (Some values) rows = rows ≡ map seen values.items

-- what was read of these rows: the values whose rows they are, in the same order; or None, where
-- what some row shows is no value that can be read
abbrev pub ReadsRows : {X Y A : Type 0} → (Y → X) → (X → Row) → (Row → Type 0)
    → Option (Vec Y A) → List X → Type 0
ReadsRows row shown IsReadable None rows = ¬ All IsReadable (map shown rows)
ReadsRows row shown IsReadable (Some values) rows = map row values.items ≡ rows

-- the table has so many rows
abbrev pub CountsAll : TableName → ℕ → Tables → Type 0
CountsAll n count t = count ≡ length (t n)

-- ---- the rows of the values

abbrev pub named_account_row : NamedAccount → AccountRow
named_account_row a = account_row (string_bytes a.name) a.account

abbrev pub quarter_total_row : List ℕ → QuarterTotal → ReportedQuarterRow
quarter_total_row account r = reported_row account r.quarter r.cents

abbrev pub year_total_row : List ℕ → YearTotal → ReportedYearRow
year_total_row account r = reported_year_row account r.year r.cents

abbrev pub quarter_correction_row : List ℕ → QuarterCorrection → CorrectedQuarterRow
quarter_correction_row account c = correction_row account c.quarter c.correction

abbrev pub listed_year_correction_row : List ℕ → YearCorrection → CorrectedYearRow
listed_year_correction_row account c = year_correction_row account c.year c.correction

abbrev pub year_holiday_row : YearHoliday → HolidayRow
year_holiday_row h = holiday_row h.year h.day

abbrev pub year_holiday_change_row : YearHolidayChange → ChangedHolidayRow
year_holiday_change_row c = holiday_change_row c.year c.change

-- whether the account is carried into the year stands with the account, and not in the row
abbrev pub stored_year_row : List ℕ → StoredYear → YearRow
stored_year_row account y = year_row account (year_line false y)

abbrev pub numbered_run_row : List ℕ → NumberedRun → RunRow
numbered_run_row account r = run_row account (pos r.number) r.run.value r.run.voided

abbrev pub numbered_payment_row : List ℕ → NumberedPayment → PaymentRow
numbered_payment_row account p =
    payment_row account (pos p.number) p.payment.value p.payment.voided

-- ---- what each call tells of the rows

-- all accounts, in the order in which they were added, as in each that follows
abbrev pub AccountsByRow : {A : Type 0} → Option (Vec NamedAccount A) → Tables → Type 0
AccountsByRow found t =
    ReadsRows named_account_row enrolled_shown IsNamedAccountCells found
    (t Accounts)

-- the forms of the account
abbrev pub FormsByRow : {A : Type 0} → List ℕ → Option (Vec Form A) → Tables → Type 0
FormsByRow account found t =
    ReadsRows (form_row account) form_shown IsFormCells found
    (filter (is_form_of account) (t Forms))

-- the corrections of the account
abbrev pub AccountCorrectionsByRow : {A : Type 0} → List ℕ → Option (Vec AccountCorrection A)
    → Tables → Type 0
AccountCorrectionsByRow account found t =
    ReadsRows (account_correction_row account) account_correction_shown IsAccountCorrectionCells
    found
    (filter (is_account_correction_of account) (t CorrectedAccounts))

-- the totals that the account reported for quarters
abbrev pub ReportedByRow : {A : Type 0} → List ℕ → Option (Vec QuarterTotal A) → Tables → Type 0
ReportedByRow account found t =
    ReadsRows (quarter_total_row account) quarter_total_shown IsQuarterTotalCells found
    (filter (is_reported_of account) (t ReportedQuarters))

-- the totals that the account reported for years
abbrev pub ReportedYearsByRow : {A : Type 0} → List ℕ → Option (Vec YearTotal A) → Tables → Type 0
ReportedYearsByRow account found t =
    ReadsRows (year_total_row account) year_total_shown IsYearTotalCells found
    (filter (is_reported_year_of account) (t ReportedYears))

-- the corrections of the totals that the account reported for quarters
abbrev pub CorrectionsByRow : {A : Type 0} → List ℕ → Option (Vec QuarterCorrection A) → Tables
    → Type 0
CorrectionsByRow account found t =
    ReadsRows (quarter_correction_row account) quarter_correction_shown IsQuarterCorrectionCells
    found
    (filter (is_correction_of account) (t CorrectedQuarters))

-- the corrections of the totals that the account reported for years
abbrev pub YearCorrectionsByRow : {A : Type 0} → List ℕ → Option (Vec YearCorrection A) → Tables
    → Type 0
YearCorrectionsByRow account found t =
    ReadsRows (listed_year_correction_row account) year_correction_shown IsYearCorrectionCells found
    (filter (is_year_correction_of account) (t CorrectedYears))

-- all years whose calendar is given
abbrev pub CalendarYearsByRow : {A : Type 0} → Option (Vec ℕ A) → Tables → Type 0
CalendarYearsByRow found t =
    ReadsRows calendar_year_row calendar_year_shown IsCountCells found
    (t CalendarYears)

-- all holidays that were given with their years
abbrev pub HolidaysByRow : {A : Type 0} → Option (Vec YearHoliday A) → Tables → Type 0
HolidaysByRow found t =
    ReadsRows year_holiday_row year_holiday_shown IsYearHolidayCells found
    (t Holidays)

-- all holidays that were added to given years
abbrev pub AddedHolidaysByRow : {A : Type 0} → Option (Vec YearHoliday A) → Tables → Type 0
AddedHolidaysByRow found t =
    ReadsRows year_holiday_row year_holiday_shown IsYearHolidayCells found
    (t AddedHolidays)

-- all changes of days of given years
abbrev pub HolidayChangesByRow : {A : Type 0} → Option (Vec YearHolidayChange A) → Tables → Type 0
HolidayChangesByRow found t =
    ReadsRows year_holiday_change_row year_holiday_change_shown IsYearHolidayChangeCells found
    (t ChangedHolidays)

-- the open years of the account
abbrev pub YearsByRow : {A : Type 0} → List ℕ → Option (Vec StoredYear A) → Tables → Type 0
YearsByRow account found t =
    ReadsRows (stored_year_row account) year_shown IsYearCells found
    (filter (is_year_of account) (t Years))

-- the runs of the account, void ones too
abbrev pub RunsByRow : {A : Type 0} → List ℕ → Option (Vec NumberedRun A) → Tables → Type 0
RunsByRow account found t =
    ReadsRows (numbered_run_row account) kept_run_shown IsNumberedRunCells found
    (filter (is_run_of account) (t Runs))

-- the payments of the account, void ones too
abbrev pub PaymentsByRow : {A : Type 0} → List ℕ → Option (Vec NumberedPayment A) → Tables → Type 0
PaymentsByRow account found t =
    ReadsRows (numbered_payment_row account) kept_payment_shown IsNumberedPaymentCells found
    (filter (is_payment_of account) (t Payments))

-- the obligations of the account
abbrev pub ObligationsByRow : {A : Type 0} → List ℕ → Option (Vec Obligation A) → Tables → Type 0
ObligationsByRow account found t =
    ReadsRows (obligation_row account) obligation_shown IsObligationCells found
    (filter (is_obligation_of_account account) (t Obligations))

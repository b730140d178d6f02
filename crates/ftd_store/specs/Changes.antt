-- What each writing call makes of the rows.
use Rattle.std.specs.Prelude.{ℕ, pos, false, not, List, [], ◌∷◌, ◌++◌, map, filter}
use Rattle.ftd_sql.specs.Kept.{changed}
use Rattle.ftd_sql.specs.declared.TableName.{TableName}
use Rattle.ftd_sql.specs.declared.TableName.TheVariants.{Accounts, ReportedQuarters}
use Rattle.ftd_sql.specs.declared.TableName.TheVariants.{CalendarYears, Holidays, Years, Runs}
use Rattle.ftd_sql.specs.declared.TableName.TheVariants.{Payments, Obligations, Forms}
use Rattle.ftd_sql.specs.declared.TableName.TheVariants.{ReportedYears, AddedHolidays}
use Rattle.ftd_sql.specs.declared.TableName.TheVariants.{CorrectedQuarters, CorrectedYears}
use Rattle.ftd_sql.specs.declared.TableName.TheVariants.{ChangedHolidays, CorrectedAccounts}
use Rattle.ftd_sql.specs.Rows.{RowOf, YearRow}
use Rattle.ftd_sql.specs.Standing.{Tables, with_rows}
use Rattle.ftd_sql.specs.Tests.{is_run, voided_run, is_payment, voided_payment}
use Rattle.ftd_sql.specs.Tests.{is_obligation_between, is_obligation, with_terms, with_due}
use Rattle.ftd_sql.specs.Tests.{is_year}
use Rattle.ftd_days.specs.Calendar.{year_of}
use Rattle.ftd_days.specs.declared.cents.Cents.{Cents}
use Rattle.ftd_rules.specs.declared.Form.{Form}
use Rattle.ftd_rules.specs.declared.Obligation.{Obligation}
use Rattle.ftd_rules.specs.declared.YearLine.{YearLine}
use Rattle.ftd_store.specs.declared.account_cells.Account.{Account}
use Rattle.ftd_rules.specs.declared.run.PayRun.{PayRun}
use Rattle.ftd_rules.specs.declared.payment.Payment.{Payment}
use Rattle.ftd_store.specs.Cells.{day_number}
use Rattle.ftd_store.specs.Rows.{account_row, form_row, reported_row, reported_year_row}
use Rattle.ftd_store.specs.Rows.{calendar_year_row, holiday_row, year_row, run_row, payment_row}
use Rattle.ftd_store.specs.Rows.{obligation_row, correction_row, year_correction_row}
use Rattle.ftd_store.specs.Rows.{account_correction_row, holiday_change_row}
use Rattle.ftd_store.specs.declared.correction_cells.AccountCorrection.{AccountCorrection}
use Rattle.ftd_store.specs.declared.correction_cells.Correction.{Correction}
use Rattle.ftd_store.specs.declared.correction_cells.HolidayChange.{HolidayChange}

-- one more row in a table
abbrev pub adding : (n : TableName) → RowOf n → Tables → Tables
adding n row t = with_rows n (t n ++ row ∷ []) t

-- ---- accounts, their forms, and what they reported

abbrev pub with_account : List ℕ → Account → Tables → Tables
with_account name account = adding Accounts (account_row name account)

abbrev pub with_form : List ℕ → Form → Tables → Tables
with_form account form = adding Forms (form_row account form)

abbrev pub with_reported : List ℕ → ℕ → Cents → Tables → Tables
with_reported account quarter cents = adding ReportedQuarters (reported_row account quarter cents)

abbrev pub with_reported_year : List ℕ → ℕ → Cents → Tables → Tables
with_reported_year account year cents = adding ReportedYears (reported_year_row account year cents)

-- ---- calendars

-- the year's calendar is given, with these holidays
abbrev pub with_calendar : ℕ → List ℕ → Tables → Tables
with_calendar year days t =
    with_rows Holidays (t Holidays ++ map (holiday_row year) days)
    (adding CalendarYears (calendar_year_row year) t)

-- a holiday is added to its year, whose calendar was given
abbrev pub with_added_holiday : ℕ → Tables → Tables
with_added_holiday day = adding AddedHolidays (holiday_row (year_of day) day)

-- ---- what was put right

-- one more correction of the total of the account's quarter, of that of its year, and of the
-- account itself
abbrev pub with_correction : List ℕ → ℕ → Correction → Tables → Tables
with_correction account quarter correction =
    adding CorrectedQuarters (correction_row account quarter correction)

abbrev pub with_year_correction : List ℕ → ℕ → Correction → Tables → Tables
with_year_correction account year correction =
    adding CorrectedYears (year_correction_row account year correction)

abbrev pub with_account_correction : List ℕ → AccountCorrection → Tables → Tables
with_account_correction account correction =
    adding CorrectedAccounts (account_correction_row account correction)

-- one more change of a day, in the day's year
abbrev pub with_holiday_change : HolidayChange → Tables → Tables
with_holiday_change change =
    adding ChangedHolidays (holiday_change_row (year_of change.day) change)

-- ---- open years

-- the row last where none of its account and year is there, else in place of that one
abbrev pub put_among : List YearRow → YearRow → List YearRow → List YearRow
put_among [] y rows = rows ++ y ∷ []
put_among (there ∷ more) y rows = map (changed (is_year y.account y.year) (λ x. y)) rows

-- the line is that of its account and year, each other as it was
abbrev pub with_year : List ℕ → YearLine → Tables → Tables
with_year account line t =
    let y = year_row account line in
    with_rows Years (put_among (filter (is_year account (pos line.year)) (t Years)) y (t Years)) t

-- ---- runs and payments

-- one more run of the account, which is not void
abbrev pub with_run : List ℕ → ℕ → PayRun → Tables → Tables
with_run account number run = adding Runs (run_row account (pos number) run false)

-- the account's run of the number is void
abbrev pub with_void_run : List ℕ → ℕ → Tables → Tables
with_void_run account number t =
    with_rows Runs (map (changed (is_run account (pos number)) voided_run) (t Runs)) t

-- one more payment of the account, which is not void
abbrev pub with_payment : List ℕ → ℕ → Payment → Tables → Tables
with_payment account number payment =
    adding Payments (payment_row account (pos number) payment false)

-- the account's payment of the number is void
abbrev pub with_void_payment : List ℕ → ℕ → Tables → Tables
with_void_payment account number t =
    with_rows Payments (map (changed (is_payment account (pos number)) voided_payment)
    (t Payments)) t

-- ---- obligations

-- the account's obligations with a first day between two days are gone
abbrev pub without_obligations : List ℕ → ℕ → ℕ → Tables → Tables
without_obligations account from to t =
    with_rows Obligations
    (filter (λ o. not (is_obligation_between account (day_number from) (day_number to) o))
    (t Obligations)) t

-- and these stand last
abbrev pub with_obligations : List ℕ → ℕ → ℕ → List Obligation → Tables → Tables
with_obligations account from to given t =
    with_rows Obligations
    (filter (λ o. not (is_obligation_between account (day_number from) (day_number to) o))
    (t Obligations) ++ map (obligation_row account) given) t

-- the account's obligation of this one's first day has the terms of this one
abbrev pub with_obligation : List ℕ → Obligation → Tables → Tables
with_obligation account o t =
    let row = obligation_row account o in
    with_rows Obligations
    (map (changed (is_obligation account row.first) (with_terms row)) (t Obligations)) t

-- the account's obligation of the first day is due then
abbrev pub with_due_date : List ℕ → ℕ → ℕ → Tables → Tables
with_due_date account first due t =
    with_rows Obligations
    (map (changed (is_obligation account (day_number first)) (with_due (day_number due)))
    (t Obligations)) t

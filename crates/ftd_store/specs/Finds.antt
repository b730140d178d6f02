-- What each reading call tells of the rows.
use Rattle.std.specs.Prelude.{◌≡◌, ℕ, ℤ, pos, false, List, [], ◌∷◌, filter, length, string_bytes}
use Rattle.std.specs.Prelude.{Option, None, Some, Vec, Bool, if◌then◌else◌}
use Rattle.std.specs.List.{All}
use Rattle.ftd_sql.specs.declared.TableName.TheVariants.{Accounts, ReportedQuarters}
use Rattle.ftd_sql.specs.declared.TableName.TheVariants.{CalendarYears, Holidays, Years, Runs}
use Rattle.ftd_sql.specs.declared.TableName.TheVariants.{CorrectedAccounts}
use Rattle.ftd_sql.specs.declared.TableName.TheVariants.{Payments, Obligations, Forms}
use Rattle.ftd_sql.specs.declared.TableName.TheVariants.{ReportedYears, AddedHolidays}
use Rattle.ftd_sql.specs.Rows.{HolidayRow, YearRow, PaymentRow, ObligationRow}
use Rattle.ftd_sql.specs.Standing.{Tables}
use Rattle.ftd_sql.specs.Tests.{is_account, is_form_of, is_reported, is_reported_year}
use Rattle.ftd_sql.specs.Tests.{is_calendar_year, is_holiday_of, is_year_of, is_run, is_run_of}
use Rattle.ftd_sql.specs.Tests.{is_live_run_between, is_payment, is_payment_of}
use Rattle.ftd_sql.specs.Tests.{is_live_payment_between, is_obligation_between, is_due_over}
use Rattle.ftd_sql.specs.Tests.{is_due_between, is_account_correction_of}
use Rattle.ftd_sql.specs.Orders.{HolidaysRise, YearsRise, RunsRise, PaymentsRise}
use Rattle.ftd_sql.specs.Orders.{ObligationsRise, AccountsRise, AccountCorrectionsRise}
use Rattle.ftd_days.specs.Calendar.{quarter_year, quarter_number}
use Rattle.ftd_days.specs.declared.cents.Cents.{Cents}
use Rattle.ftd_rules.specs.declared.DaySum.{DaySum}
use Rattle.ftd_rules.specs.declared.Form.{Form}
use Rattle.ftd_rules.specs.declared.Obligation.{Obligation}
use Rattle.ftd_rules.specs.declared.YearLine.{YearLine}
use Rattle.ftd_rules.specs.Years.{AreOpenYears, OnlyFirstCarried}
use Rattle.ftd_store.specs.CorrectionRows.{as_corrected}
use Rattle.ftd_store.specs.declared.account_cells.Account.{Account}
use Rattle.ftd_store.specs.declared.correction_cells.AccountCorrection.{AccountCorrection}
use Rattle.ftd_rules.specs.declared.run.PayRun.{PayRun}
use Rattle.ftd_rules.specs.declared.run.Voidable.{Voidable}
use Rattle.ftd_rules.specs.declared.payment.Payment.{Payment}
use Rattle.ftd_store.specs.declared.obligation_cells.AccountObligation.{AccountObligation}
use Rattle.ftd_store.specs.Cells.{day_number}
use Rattle.ftd_store.specs.Rows.{account_row, form_row, reported_row, reported_year_row}
use Rattle.ftd_store.specs.Rows.{calendar_year_row, holiday_row, year_row, run_row, payment_row}
use Rattle.ftd_store.specs.Rows.{obligation_row}
use Rattle.ftd_store.specs.Reading.{rows_of}
use Rattle.ftd_store.specs.Lists.{Lists}
use Rattle.ftd_store.specs.DaySums.{ListsDaySums}
use Rattle.ftd_store.specs.Years.{FirstCarriedAs, HasFittingTurn}
use Rattle.ftd_store.specs.Corrections.{IsAccountCorrection}

-- ---- accounts, their forms, and what they reported

abbrev pub FindsAccount : List ℕ → Option Account → Tables → Type 0
FindsAccount name found t = filter (is_account name) (t Accounts) ≡ rows_of (account_row name) found

-- the account as its last correction has it, or as it was enrolled where there is none; None where
-- it was not enrolled
pub record FindsInForce (name : List ℕ) (found : Option Account) (t : Tables) : Type 0 where
  pub enrolled : Option Account
  pub is_enrolled : FindsAccount name enrolled t
  pub corrections : List AccountCorrection
  pub are_all : Lists AccountCorrectionsRise (IsAccountCorrection name)
      (filter (is_account_correction_of name) (t CorrectedAccounts)) corrections
  pub is_last : found ≡ as_corrected enrolled corrections

abbrev pub FindsForm : List ℕ → Option Form → Tables → Type 0
FindsForm account found t = filter (is_form_of account) (t Forms) ≡ rows_of (form_row account) found

abbrev pub FindsReported : List ℕ → ℕ → Option Cents → Tables → Type 0
FindsReported account quarter found t =
    filter (is_reported account (pos (quarter_year quarter)) (pos (quarter_number quarter)))
    (t ReportedQuarters) ≡ rows_of (reported_row account quarter) found

abbrev pub FindsReportedYear : List ℕ → ℕ → Option Cents → Tables → Type 0
FindsReportedYear account year found t =
    filter (is_reported_year account (pos year)) (t ReportedYears)
    ≡ rows_of (reported_year_row account year) found

-- ---- calendars

-- the row is the holiday of the year
abbrev pub IsHoliday : ℕ → HolidayRow → ℕ → Type 0
IsHoliday year row day = row ≡ holiday_row year day

-- the year's calendar was given, or it was not
abbrev pub HasCalendar : ℕ → Bool → Tables → Type 0
HasCalendar year there t =
    filter (is_calendar_year (pos year)) (t CalendarYears)
    ≡ (if there then calendar_year_row year ∷ [] else [])

-- the year's calendar was given and these are its holidays, rising, or it was not given
abbrev pub FindsCalendar : {A : Type 0} → ℕ → Option (Vec ℕ A) → Tables → Type 0
FindsCalendar year None t = filter (is_calendar_year (pos year)) (t CalendarYears) ≡ []
FindsCalendar year (Some days) t =
    (filter (is_calendar_year (pos year)) (t CalendarYears) ≡ calendar_year_row year ∷ [])
    × Lists HolidaysRise (IsHoliday year)
    (filter (is_holiday_of (pos year)) (t Holidays)) days.items

-- the holidays that were added to the year, rising
abbrev pub ListsAdded : {A : Type 0} → ℕ → Vec ℕ A → Tables → Type 0
ListsAdded year days t =
    Lists HolidaysRise (IsHoliday year)
    (filter (is_holiday_of (pos year)) (t AddedHolidays)) days.items

-- ---- open years

-- the row is that of the account's line
abbrev pub IsYear : List ℕ → YearRow → YearLine → Type 0
IsYear account row line = row ≡ year_row account line

-- the account's open years, by year: they go on one by one within 2001 to 2098, each turn fits, the
-- first is carried as the account in force is, and no other is carried
pub record ListsYears {A : Type 0} (account : List ℕ) (lines : Vec YearLine A)
    (t : Tables) : Type 0 where
  pub listed : Lists YearsRise (IsYear account) (filter (is_year_of account) (t Years)) lines.items
  pub whole : AreOpenYears lines.items
  pub turns : All HasFittingTurn lines.items
  pub first : (found : Option Account) × FindsInForce account found t
      × FirstCarriedAs found lines.items
  pub others : OnlyFirstCarried lines.items

-- ---- runs

abbrev pub FindsRun : List ℕ → ℕ → Option (Voidable PayRun) → Tables → Type 0
FindsRun account number found t =
    filter (is_run account (pos number)) (t Runs)
    ≡ rows_of (λ r. run_row account (pos number) r.value r.voided) found

abbrev pub CountsRuns : List ℕ → ℕ → Tables → Type 0
CountsRuns account count t = count ≡ length (filter (is_run_of account) (t Runs))

-- the account's liability day by day, by its live runs with a payday between two days
abbrev pub ListsLiability : {A : Type 0} → List ℕ → ℕ → ℕ → Vec DaySum A → Tables → Type 0
ListsLiability account from to sums t =
    ListsDaySums RunsRise account
    (filter (is_live_run_between account (day_number from) (day_number to)) (t Runs)) sums.items

-- ---- payments

abbrev pub FindsPayment : List ℕ → ℕ → Option (Voidable Payment) → Tables → Type 0
FindsPayment account number found t =
    filter (is_payment account (pos number)) (t Payments)
    ≡ rows_of (λ p. payment_row account (pos number) p.value p.voided) found

abbrev pub CountsPayments : List ℕ → ℕ → Tables → Type 0
CountsPayments account count t = count ≡ length (filter (is_payment_of account) (t Payments))

-- the row is the live payment of the account, whatever its number
abbrev pub IsLivePayment : List ℕ → PaymentRow → Payment → Type 0
IsLivePayment account row p = (number : ℤ) × (row ≡ payment_row account number p false)

-- the account's live payments for days between two, by that day and number
abbrev pub ListsPayments : {A : Type 0} → List ℕ → ℕ → ℕ → Vec Payment A → Tables → Type 0
ListsPayments account from to listed t =
    Lists PaymentsRise (IsLivePayment account)
    (filter (is_live_payment_between account (day_number from) (day_number to))
    (t Payments)) listed.items

-- ---- obligations

-- the row is the account's obligation
abbrev pub IsObligation : List ℕ → ObligationRow → Obligation → Type 0
IsObligation account row o = row ≡ obligation_row account o

-- the account's obligations with a first day between two days, by first day
abbrev pub ListsObligations : {A : Type 0} → List ℕ → ℕ → ℕ → Vec Obligation A → Tables → Type 0
ListsObligations account from to listed t =
    Lists ObligationsRise (IsObligation account)
    (filter (is_obligation_between account (day_number from) (day_number to))
    (t Obligations)) listed.items

-- the row is the obligation of the account that it names
abbrev pub IsAccountObligation : ObligationRow → AccountObligation → Type 0
IsAccountObligation row o = row ≡ obligation_row (string_bytes o.account) o.obligation

-- the obligations of all accounts that begin before the day and are due on it or later, by account
-- and first day
abbrev pub ListsDueOver : {A : Type 0} → ℕ → Vec AccountObligation A → Tables → Type 0
ListsDueOver day listed t =
    Lists AccountsRise IsAccountObligation
    (filter (is_due_over (day_number day)) (t Obligations)) listed.items

-- the obligations of all accounts that are due between two days, by account and first day
abbrev pub ListsDueBetween : {A : Type 0} → ℕ → ℕ → Vec AccountObligation A → Tables → Type 0
ListsDueBetween from to listed t =
    Lists AccountsRise IsAccountObligation
    (filter (is_due_between (day_number from) (day_number to)) (t Obligations)) listed.items

-- When tables stand for a state: each holds the rows of its entries, in the order in which they
-- were accepted, and the rows that follow from them are settled.
use Rattle.std.specs.Prelude.{◌≡◌, ℕ, ◌+◌, pos, Bool, bytes_eq, List, [], ◌∷◌, ◌++◌, map, flat_map}
use Rattle.std.specs.Prelude.{filter, length, IsPermutation}
use Rattle.ftd_days.specs.Calendar.{year_of}
use Rattle.ftd_days.specs.Holidays.{YearDays}
use Rattle.ftd_days.specs.declared.cents.Cents.{Cents}
use Rattle.ftd_rules.specs.declared.Form.TheVariants.{F941}
use Rattle.ftd_rules.specs.Lists.{Has}
use Rattle.ftd_rules.specs.declared.YearLine.{YearLine}
use Rattle.ftd_rules.specs.declared.Obligation.{Obligation}
use Rattle.ftd_rules.specs.declared.run.PayRun.{PayRun}
use Rattle.ftd_rules.specs.declared.run.Voidable.{Voidable}
use Rattle.ftd_rules.specs.declared.payment.Payment.{Payment}
use Rattle.ftd_rules.specs.Obligations.{AreObligations}
use Rattle.ftd_sql.specs.declared.TableName.TheVariants.{Metas, Accounts, ReportedQuarters}
use Rattle.ftd_sql.specs.declared.TableName.TheVariants.{CalendarYears, Holidays, Years, Runs}
use Rattle.ftd_sql.specs.declared.TableName.TheVariants.{Payments, Obligations, Forms}
use Rattle.ftd_sql.specs.declared.TableName.TheVariants.{ReportedYears, AddedHolidays}
use Rattle.ftd_sql.specs.declared.TableName.TheVariants.{CorrectedQuarters, CorrectedYears}
use Rattle.ftd_sql.specs.declared.TableName.TheVariants.{ChangedHolidays, CorrectedAccounts}
use Rattle.ftd_sql.specs.Rows.{AccountRow, FormRow, ReportedQuarterRow, ReportedYearRow}
use Rattle.ftd_sql.specs.Rows.{CalendarYearRow, HolidayRow, RunRow, PaymentRow, ObligationRow}
use Rattle.ftd_sql.specs.Rows.{CorrectedQuarterRow, CorrectedYearRow, ChangedHolidayRow}
use Rattle.ftd_sql.specs.Rows.{CorrectedAccountRow}
use Rattle.ftd_sql.specs.Standing.{Tables}
use Rattle.ftd_sql.specs.Beginnings.{HasVersion}
use Rattle.ftd_sql.specs.Tests.{is_year_of}
use Rattle.ftd_store.specs.Rows.{account_row, form_row, reported_row, reported_year_row}
use Rattle.ftd_store.specs.Rows.{calendar_year_row, holiday_row, year_row, run_row, payment_row}
use Rattle.ftd_store.specs.Rows.{obligation_row, correction_row, year_correction_row}
use Rattle.ftd_store.specs.Rows.{account_correction_row, holiday_change_row}
use Rattle.ftd_store.specs.declared.correction_cells.Correction.{Correction}
use Rattle.ftd_machine.specs.State.{State, Enrolled, Entry, DayChange, entries_of, holidays, is_of}
use Rattle.ftd_machine.specs.State.{Move, all_at, changes_of, moves_of}
use Rattle.ftd_machine.specs.History.{form_of, live_sums, AreLinesOf}

-- ---- the rows of an entry

-- an account stands in two tables: its first day and whether it was carried, and its form
abbrev pub enrolled_row : Enrolled → AccountRow
enrolled_row e =
    account_row e.name (record { start = e.account.start; carried = e.account.carried })

abbrev pub enrolled_form : Enrolled → FormRow
enrolled_form e = form_row e.name e.account.form

abbrev pub quarter_entry : Entry Cents → ReportedQuarterRow
quarter_entry e = reported_row e.name e.key e.content

abbrev pub year_entry : Entry Cents → ReportedYearRow
year_entry e = reported_year_row e.name e.key e.content

-- a calendar stands in two tables: its year, and its days
abbrev pub calendar_entry : YearDays → CalendarYearRow
calendar_entry c = calendar_year_row c.year

abbrev pub holiday_entries : YearDays → List HolidayRow
holiday_entries c = map (holiday_row c.year) c.days

abbrev pub added_entry : ℕ → HolidayRow
added_entry day = holiday_row (year_of day) day

abbrev pub run_entry : Entry (Voidable PayRun) → RunRow
run_entry e = run_row e.name (pos e.key) e.content.value e.content.voided

abbrev pub payment_entry : Entry (Voidable Payment) → PaymentRow
payment_entry e = payment_row e.name (pos e.key) e.content.value e.content.voided

-- ---- the rows of corrections

-- each with those that came before it
abbrev pub with_earlier : {X : Type 0} → List X → List X → List (List X × X)
with_earlier before [] = []
with_earlier before (x ∷ xs) = (before, x) ∷ with_earlier (before ++ x ∷ []) xs

-- the number of a correction is one more than there are corrections before it of the same total, of
-- the same day, or of the same account
abbrev pub correction_of : List (Entry Cents) × Entry Cents → Correction
correction_of p = record {
  number = length (all_at p.1.key (filter (is_of p.1.name) p.0)) + 1;
  cents = p.1.content;
}

abbrev pub correction_entry : List (Entry Cents) × Entry Cents → CorrectedQuarterRow
correction_entry p = correction_row p.1.name p.1.key (correction_of p)

abbrev pub year_correction_entry : List (Entry Cents) × Entry Cents → CorrectedYearRow
year_correction_entry p = year_correction_row p.1.name p.1.key (correction_of p)

abbrev pub change_entry : List DayChange × DayChange → ChangedHolidayRow
change_entry p = holiday_change_row (year_of p.1.day) (record {
  day = p.1.day;
  number = length (changes_of p.1.day p.0) + 1;
  is_holiday = p.1.is_holiday;
})

abbrev pub account_correction_entry : List Move × Move → CorrectedAccountRow
account_correction_entry p = account_correction_row p.1.name (record {
  number = length (moves_of p.1.name p.0) + 1;
  account = record { start = p.1.beginning.start; carried = p.1.beginning.carried };
})

-- ---- what follows from the entries

abbrev pub is_obligation_of : List ℕ → ObligationRow → Bool
is_obligation_of name o = bytes_eq o.account name

-- the account's rows of open years are those of its lines, and its rows of obligations are those
-- that it owes
pub record IsSettled (t : Tables) (s : State) (name : List ℕ) : Type 0 where
  pub lines : List YearLine
  pub are_lines : AreLinesOf (entries_of s name) lines
  pub owed : List Obligation
  pub are_owed : AreObligations (form_of (entries_of s name).account) lines
      (live_sums (entries_of s name)) (holidays s) owed
  pub line_rows : IsPermutation (filter (is_year_of name) (t Years)) (map (year_row name) lines)
  pub owed_rows : IsPermutation (filter (is_obligation_of name) (t Obligations))
      (map (obligation_row name) owed)

-- ---- the rows of what was entered, and what was entered

-- accounts, their forms, and what was put right of them
pub record AreAccounts (named : List AccountRow) (on : List FormRow)
    (right : List CorrectedAccountRow) (enrolled : List Enrolled) (moves : List Move) : Type 0 where
  pub accounts : named ≡ map enrolled_row enrolled
  -- in any order: a migration adds the forms in the order in which it reads the accounts
  pub forms : IsPermutation on (map enrolled_form enrolled)
  pub moved : right ≡ map account_correction_entry (with_earlier [] moves)

-- figures of quarters and of years, and their corrections
pub record AreFigures (quarters : List ReportedQuarterRow) (years : List ReportedYearRow)
    (right : List CorrectedQuarterRow) (right_years : List CorrectedYearRow)
    (first first_years later later_years : List (Entry Cents)) : Type 0 where
  pub reported : quarters ≡ map quarter_entry first
  pub reported_years : years ≡ map year_entry first_years
  pub corrected : right ≡ map correction_entry (with_earlier [] later)
  pub corrected_years : right_years ≡ map year_correction_entry (with_earlier [] later_years)

-- calendars, added holidays and changed days
pub record AreDays (years : List CalendarYearRow) (days more : List HolidayRow)
    (changed : List ChangedHolidayRow) (given : List YearDays) (added : List ℕ)
    (changes : List DayChange) : Type 0 where
  pub calendars : years ≡ map calendar_entry given
  pub calendar_days : days ≡ flat_map holiday_entries given
  pub added_days : more ≡ map added_entry added
  pub changed_days : changed ≡ map change_entry (with_earlier [] changes)

-- pay runs and payments
pub record ArePaid (posted : List RunRow) (recorded : List PaymentRow)
    (paydays : List (Entry (Voidable PayRun))) (paid : List (Entry (Voidable Payment)))
    : Type 0 where
  pub runs : posted ≡ map run_entry paydays
  pub payments : recorded ≡ map payment_entry paid

-- ---- the rows of the tables are those of the state

abbrev pub KeepsAccounts : Tables → State → Type 0
KeepsAccounts t s =
    AreAccounts (t Accounts) (t Forms) (t CorrectedAccounts) s.accounts s.moved

abbrev pub KeepsFigures : Tables → State → Type 0
KeepsFigures t s = AreFigures (t ReportedQuarters) (t ReportedYears) (t CorrectedQuarters)
    (t CorrectedYears) s.reported s.reported_years s.corrected s.corrected_years

abbrev pub KeepsDays : Tables → State → Type 0
KeepsDays t s = AreDays (t CalendarYears) (t Holidays) (t AddedHolidays) (t ChangedHolidays)
    s.calendars s.added_days s.changed_days

abbrev pub KeepsPaid : Tables → State → Type 0
KeepsPaid t s = ArePaid (t Runs) (t Payments) s.runs s.payments

-- the tables are marked as those of version 3, and hold the rows of all that was entered
pub record KeepsEntries (t : Tables) (s : State) : Type 0 where
  pub meta : HasVersion (t Metas) 3
  pub enrolled : KeepsAccounts t s
  pub figures : KeepsFigures t s
  pub days : KeepsDays t s
  pub paid : KeepsPaid t s

-- they stand for the state
pub record StandsFor (t : Tables) (s : State) : Type 0 where
  pub entries : KeepsEntries t s
  pub settled : (name : List ℕ) → IsSettled t s name

-- ---- earlier versions

-- version 1 has no tables for forms, totals of years and added holidays: each account is on Form
-- 941, and none of the others was entered
pub record HasNoLater (s : State) : Type 0 where
  pub on_form_941 : (e : Enrolled) → Has s.accounts e → e.account.form ≡ F941
  pub no_years : s.reported_years ≡ []
  pub no_added : s.added_days ≡ []

-- version 2 has them
pub record HasLater (t : Tables) (s : State) : Type 0 where
  pub forms : IsPermutation (t Forms) (map enrolled_form s.accounts)
  pub reported_years : t ReportedYears ≡ map year_entry s.reported_years
  pub added_days : t AddedHolidays ≡ map added_entry s.added_days

-- the tables are marked as those of an earlier version, and stand for the state: neither version
-- has tables for corrections, and the other tables hold the rows of their entries, and the rows
-- that follow from them are settled
pub record StandsForEarlier (version : ℕ) (t : Tables) (s : State) : Type 0 where
  pub meta : HasVersion (t Metas) version
  pub first : version ≡ 1 → HasNoLater s
  pub second : version ≡ 2 → HasLater t s
  pub no_corrected : s.corrected ≡ []
  pub no_corrected_years : s.corrected_years ≡ []
  pub no_changed : s.changed_days ≡ []
  pub no_moved : s.moved ≡ []
  pub accounts : t Accounts ≡ map enrolled_row s.accounts
  pub reported : t ReportedQuarters ≡ map quarter_entry s.reported
  pub calendars : t CalendarYears ≡ map calendar_entry s.calendars
  pub calendar_days : t Holidays ≡ flat_map holiday_entries s.calendars
  pub runs : t Runs ≡ map run_entry s.runs
  pub payments : t Payments ≡ map payment_entry s.payments
  pub settled : (name : List ℕ) → IsSettled t s name

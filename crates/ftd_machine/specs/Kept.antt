-- What the desk answers to the question what is kept.
use Rattle.std.specs.Prelude.{◌≡◌, ◌⊎◌, ◌≤◌, ◌<◌, ◌↔◌, ◌++◌, ℕ, List, [], Option, None, Some}
use Rattle.std.specs.Prelude.{Bool, true, false, map}
use Rattle.ftd_days.specs.Calendar.{year_of, quarter_of}
use Rattle.ftd_rules.specs.declared.Form.{Form}
use Rattle.ftd_rules.specs.declared.Obligation.{Obligation}
use Rattle.ftd_rules.specs.declared.YearLine.{YearLine}
use Rattle.ftd_rules.specs.Laws.{Covers}
use Rattle.ftd_rules.specs.Lists.{Has}
use Rattle.ftd_machine.specs.State.{State, Entries, entries_of, holidays, calendar_at, is_given}
use Rattle.ftd_machine.specs.State.{kept_at, in_force_at, is_in_force, reported_at}
use Rattle.ftd_machine.specs.History.{form_of, AreLinesOf, AreOwed, HasLookback}
use Rattle.ftd_machine.specs.Checks.{Answer}
use Rattle.ftd_machine.specs.Requests.{form_for, kept_of_checks, kept_in_quarter_checks}
use Rattle.ftd_machine.specs.Requests.{holidays_checks}
use Rattle.ftd_machine.specs.Agenda.{EachToLater, IsNameBefore}
use Rattle.ftd_machine.specs.declared.entries.ReturnPeriod.{ReturnPeriod}
use Rattle.ftd_machine.specs.declared.entries.ReturnPeriod.TheVariants.{Quarter, Year}
use Rattle.ftd_machine.specs.declared.kept.KeptAccount.{KeptAccount}
use Rattle.ftd_machine.specs.declared.kept.KeptHoliday.{KeptHoliday}
use Rattle.ftd_machine.specs.declared.kept.KeptPayment.{KeptPayment}
use Rattle.ftd_machine.specs.declared.kept.KeptRun.{KeptRun}
use Rattle.ftd_machine.specs.declared.kept.KeptTotal.{KeptTotal}
use Rattle.ftd_machine.specs.declared.kept.KeptYear.{KeptYear}
use Rattle.ftd_machine.specs.declared.kept.KeptRows.TheVariants as rows
use Rattle.ftd_machine.specs.Told.{kept_answer}
use Rattle.ftd_machine.specs.declared.requests.KeptList.{KeptList}
use Rattle.ftd_machine.specs.declared.requests.KeptList.TheVariants.{Accounts, Years, Reported}
use Rattle.ftd_machine.specs.declared.requests.KeptList.TheVariants.{Holidays, Runs, Payments}

-- ---- accounts

-- it is enrolled so
abbrev pub IsEnrolled : State → KeptAccount → Type 0
IsEnrolled s x = (entries_of s x.name).account ≡ Some x.account

abbrev pub IsAccountBefore : KeptAccount → KeptAccount → Type 0
IsAccountBefore a b = IsNameBefore a.name b.name

-- the answer is all accounts, by name
pub record AreAccounts (s : State) (answer : Answer) : Type 0 where
  pub listed : List KeptAccount
  pub by_name : EachToLater IsAccountBefore listed
  pub all : (x : KeptAccount) → Has listed x ↔ IsEnrolled s x
  pub told : answer ≡ kept_answer (rows.Accounts listed)

-- ---- open years

-- what was accepted of the account, as if none of its totals had been put right
abbrev pub as_first_reported : Entries → Entries
as_first_reported own = record own { corrected = []; corrected_years = [] }

abbrev pub line_of : KeptYear → YearLine
line_of x = x.line

-- the answer is the lines of the account's open years: each with its lookback total, with whether
-- the account is carried into it, with its opening and its turn; and beside each its lookback total
-- by the totals as they were first reported
pub record AreYears (own : Entries) (name : List ℕ) (answer : Answer) : Type 0 where
  pub listed : List KeptYear
  pub are_lines : AreLinesOf own (map line_of listed)
  pub first_lookbacks : (x : KeptYear) → Has listed x
      → HasLookback (as_first_reported own) x.line.year x.first_lookback
  pub told : answer ≡ kept_answer (rows.Years name listed)

-- ---- reported totals

-- it is the total of a quarter on Form 941 or of a year on Form 943: as it is in force, and as it
-- was first reported
pub record IsTotal (form : Form) (own : Entries) (x : KeptTotal) : Type 0 where
  pub of_form : form_for x.period ≡ form
  pub in_force : in_force_at own x.period ≡ Some x.cents
  pub first_reported : reported_at own x.period ≡ Some x.first

-- the number of the quarter or the year
abbrev pub period_number : ReturnPeriod → ℕ
period_number (Quarter quarter) = quarter
period_number (Year year) = year

abbrev pub IsTotalBefore : KeptTotal → KeptTotal → Type 0
IsTotalBefore a b = period_number a.period < period_number b.period

-- the answer is all of them, by quarter or year
pub record AreTotals (own : Entries) (name : List ℕ) (answer : Answer) : Type 0 where
  pub listed : List KeptTotal
  pub by_period : EachToLater IsTotalBefore listed
  pub all : (x : KeptTotal) → Has listed x ↔ IsTotal (form_of own.account) own x
  pub told : answer ≡ kept_answer (rows.Reported name listed)

-- ---- holidays

-- it was added to the calendar of the year
abbrev pub IsAdded : State → ℕ → ℕ → Type 0
IsAdded s year day = Has s.added_days day × (year_of day ≡ year)

abbrev pub IsDayBefore : ℕ → ℕ → Type 0
IsDayBefore a b = a < b

-- the day, whether it was added, and whether it is a holiday now
abbrev pub kept_holiday : State → Bool → ℕ → KeptHoliday
kept_holiday s added day = record {
  day = day;
  added = added;
  is_holiday = is_in_force s.changed_days day;
}

-- the days that were given, then those that were added
abbrev pub kept_days : State → List ℕ → List ℕ → List KeptHoliday
kept_days s given added =
    map (kept_holiday s false) given ++ map (kept_holiday s true) added

-- the answer is the days of the year's calendar as it was given, then all days that were added to
-- it, rising
pub record AreHolidays (s : State) (year : ℕ) (answer : Answer) : Type 0 where
  pub given : List ℕ
  pub is_given : calendar_at s year ≡ Some given
  pub added : List ℕ
  pub rising : EachToLater IsDayBefore added
  pub all : (day : ℕ) → Has added day ↔ IsAdded s year day
  pub told : answer ≡ kept_answer (rows.Holidays year (kept_days s given added))

-- ---- runs

-- it is the run of its number, with a payday in the quarter
abbrev pub IsRunIn : Entries → ℕ → KeptRun → Type 0
IsRunIn own quarter x =
    (kept_at x.number own.runs ≡ Some (record { value = x.run; voided = x.voided }))
    × (quarter_of x.run.payday ≡ quarter)

-- by payday, and on one payday by number
abbrev pub IsRunBefore : KeptRun → KeptRun → Type 0
IsRunBefore a b =
    (a.run.payday < b.run.payday)
    ⊎ ((a.run.payday ≡ b.run.payday) × (a.number < b.number))

-- the answer is all of them, in this order
pub record AreRuns (own : Entries) (name : List ℕ) (quarter : ℕ) (answer : Answer) : Type 0 where
  pub listed : List KeptRun
  pub in_order : EachToLater IsRunBefore listed
  pub all : (x : KeptRun) → Has listed x ↔ IsRunIn own quarter x
  pub told : answer ≡ kept_answer (rows.Runs name quarter listed)

-- ---- payments

-- this is the first day of the obligation whose deposit period holds the day, or there is none
abbrev pub IsHeldBy : List Obligation → ℕ → Option ℕ → Type 0
IsHeldBy owed day None = (o : Obligation) → Has owed o → Covers o day → ⊥
IsHeldBy owed day (Some first) =
    (o : Obligation) × Has owed o × Covers o day × (o.first ≡ first)
    × ((p : Obligation) → Has owed p → Covers p day → first ≤ p.first)

-- it is the payment of its number, for a day of the quarter, with the obligation that holds this
-- day
abbrev pub IsPaymentIn : List Obligation → Entries → ℕ → KeptPayment → Type 0
IsPaymentIn owed own quarter x =
    (kept_at x.number own.payments ≡ Some (record { value = x.payment; voided = x.voided }))
    × (quarter_of x.payment.for_day ≡ quarter)
    × IsHeldBy owed x.payment.for_day x.obligation

-- by the day that they are for, and for one day by number
abbrev pub IsPaymentBefore : KeptPayment → KeptPayment → Type 0
IsPaymentBefore a b =
    (a.payment.for_day < b.payment.for_day)
    ⊎ ((a.payment.for_day ≡ b.payment.for_day) × (a.number < b.number))

-- the answer is all of them, in this order
pub record ArePayments (holidays : List ℕ) (own : Entries) (name : List ℕ) (quarter : ℕ)
    (answer : Answer) : Type 0 where
  pub owed : List Obligation
  pub are_owed : AreOwed holidays own owed
  pub listed : List KeptPayment
  pub in_order : EachToLater IsPaymentBefore listed
  pub all : (x : KeptPayment) → Has listed x ↔ IsPaymentIn owed own quarter x
  pub told : answer ≡ kept_answer (rows.Payments name quarter listed)

-- ---- the question

-- its checks, in their order
abbrev pub kept_checks : State → KeptList → List (Option Answer)
kept_checks s Accounts = []
kept_checks s (Years name) = kept_of_checks name (entries_of s name).account
kept_checks s (Reported name) = kept_of_checks name (entries_of s name).account
kept_checks s (Holidays year) = holidays_checks year (is_given s year)
kept_checks s (Runs name quarter) = kept_in_quarter_checks name quarter (entries_of s name).account
kept_checks s (Payments name quarter) =
    kept_in_quarter_checks name quarter (entries_of s name).account

-- where they pass, this is the answer
abbrev pub TellsKept : State → KeptList → Answer → Type 0
TellsKept s Accounts answer = AreAccounts s answer
TellsKept s (Years name) answer = AreYears (entries_of s name) name answer
TellsKept s (Reported name) answer = AreTotals (entries_of s name) name answer
TellsKept s (Holidays year) answer = AreHolidays s year answer
TellsKept s (Runs name quarter) answer = AreRuns (entries_of s name) name quarter answer
TellsKept s (Payments name quarter) answer =
    ArePayments (holidays s) (entries_of s name) name quarter answer

-- the account that it names; all accounts and the holidays of a year name none
abbrev pub account_kept : KeptList → Option (List ℕ)
account_kept Accounts = None
account_kept (Years name) = Some name
account_kept (Reported name) = Some name
account_kept (Holidays year) = None
account_kept (Runs name quarter) = Some name
account_kept (Payments name quarter) = Some name

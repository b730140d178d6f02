-- What is so of every state that requests lead to.
use Rattle.std.specs.Prelude.{is_some, ◌≡◌, ◌≤◌, ℕ, ◌+◌, true, List, [], ◌∷◌, map, filter, length}
use Rattle.std.specs.Prelude.{nat_le, Option}
use Rattle.ftd_machine.specs.declared.limits.TheConstants.{MOST_ENTRIES, MOST_NUMBER}
use Rattle.ftd_days.specs.declared.limits.TheConstants.{LAST_OPEN_YEAR}
use Rattle.ftd_days.specs.Calendar.{year_of}
use Rattle.ftd_days.specs.Business.{is_holiday}
use Rattle.ftd_days.specs.Holidays.{YearDays, AreFew}
use Rattle.ftd_days.specs.declared.cents.Cents.{Cents}
use Rattle.ftd_rules.specs.Accounts.{is_account_name}
use Rattle.ftd_rules.specs.Lists.{Has}
use Rattle.ftd_rules.specs.declared.run.PayRun.{PayRun}
use Rattle.ftd_rules.specs.declared.payment.Payment.{Payment}
use Rattle.ftd_rules.specs.declared.run.Voidable.{Voidable}
use Rattle.ftd_machine.specs.Limits.{can_be_opened, can_have_calendar, is_calendar, is_amount}
use Rattle.ftd_machine.specs.Limits.{are_amounts}
use Rattle.ftd_machine.specs.Limits.{is_number, can_be_reported}
use Rattle.ftd_machine.specs.declared.entries.Account.{Account}
use Rattle.ftd_machine.specs.declared.entries.ReturnPeriod.{ReturnPeriod}
use Rattle.ftd_machine.specs.declared.entries.ReturnPeriod.TheVariants.{Quarter, Year}
use Rattle.ftd_machine.specs.Checks.{meets}
use Rattle.ftd_machine.specs.Requests.{is_on, form_for, year_of_period, starts_in_time}
use Rattle.ftd_machine.specs.Requests.{has_started, has_started_in}
use Rattle.ftd_machine.specs.State.{DayChange, State, Enrolled, all_days, Entry, entries_of, is_of}
use Rattle.ftd_machine.specs.State.{is_open, is_given, Move, enrolled_in, moves_in, changes_of}
use Rattle.ftd_machine.specs.State.{kept_at, all_at}
use Rattle.ftd_machine.specs.History.{year_of_entry, HasLookback}

-- no two have the same key
abbrev pub AreDistinct : {X K : Type 0} → (X → K) → List X → Type 0
AreDistinct key [] = Unit {0}
AreDistinct key (x ∷ xs) = ((later : _) → Has xs later → key later ≡ key x → ⊥) × AreDistinct key xs

abbrev pub name_of : Enrolled → List ℕ
name_of e = e.name

abbrev pub year_of_calendar : YearDays → ℕ
year_of_calendar c = c.year

abbrev pub place_of : {X : Type 0} → Entry X → List ℕ × ℕ
place_of e = (e.name, e.key)

-- each year is the one after the year before it
abbrev pub FollowFrom : ℕ → List ℕ → Type 0
FollowFrom year [] = Unit {0}
FollowFrom year (next ∷ years) = (next ≡ year + 1) × FollowFrom next years

abbrev pub Follow : List ℕ → Type 0
Follow [] = Unit {0}
Follow (year ∷ years) = FollowFrom year years

-- each open year has its lookback total: each figure of its lookback period is reported, or lies
-- before the account's first day
abbrev pub HasTotals : State → Type 0
HasTotals s = (e : Entry (Unit {0})) → Has s.open_years e
    → (total : Cents) × HasLookback (entries_of s e.name) e.key total

-- a total of the period may be kept of the account: it is on the form whose return is about the
-- period, which is one of 1999 to 2098 and does not end before the account's first day
pub record IsReportable (account : Option Account) (period : ReturnPeriod) : Type 0 where
  pub on_form : meets (is_on (form_for period)) account ≡ true
  pub in_years : can_be_reported (year_of_period period) ≡ true
  pub starts : meets (starts_in_time period) account ≡ true

-- what is so of every state that requests lead to
pub record IsSound (s : State) : Type 0 where
  -- a name, the year of a calendar, and what is kept of an account under a key stand once
  pub accounts : AreDistinct name_of s.accounts
  pub calendars : AreDistinct year_of_calendar s.calendars
  pub reported : AreDistinct place_of s.reported
  pub reported_years : AreDistinct place_of s.reported_years
  pub open_years : AreDistinct place_of s.open_years
  pub runs : AreDistinct place_of s.runs
  pub payments : AreDistinct place_of s.payments
  -- each calendar has at most 60 days of its year, rising
  pub are_calendars : (c : YearDays) → Has s.calendars c
      → (can_have_calendar c.year ≡ true) × (is_calendar c.year c.days ≡ true)
  -- each open year is one of 2001 to 2098, and its calendar and that of the next year are given
  pub opened : (e : Entry (Unit {0})) → Has s.open_years e
      → (can_be_opened e.key ≡ true)
      × (is_given s e.key ≡ true) × (is_given s (e.key + 1) ≡ true)
  -- each open year is one of an account that is enrolled
  pub enrolled : (e : Entry (Unit {0})) → Has s.open_years e
      → is_some (entries_of s e.name).account ≡ true
  -- each open year has its lookback total
  pub totals : HasTotals s
  -- the open years of an account follow one another
  pub in_turn : (name : List ℕ) → Follow (map year_of_entry (filter (is_of name) s.open_years))
  -- each payday, and each day that a payment is for, lies in an open year of its account
  pub paydays : (e : Entry (Voidable PayRun)) → Has s.runs e
      → is_open (entries_of s e.name) (year_of e.content.value.payday) ≡ true
  pub paid_days : (e : Entry (Voidable Payment)) → Has s.payments e
      → is_open (entries_of s e.name) (year_of e.content.value.for_day) ≡ true
  -- an account has at most 20,000 runs, and as many payments, voided ones too
  pub counts : (name : List ℕ) → (length (entries_of s name).runs ≤ MOST_ENTRIES)
      × (length (entries_of s name).payments ≤ MOST_ENTRIES)
  -- each run has a number of 1 to 999,999,999
  pub run_numbers : (e : Entry (Voidable PayRun)) → Has s.runs e → is_number e.key ≡ true
  -- each amount is at most 999,999,999.99
  pub reported_amounts : (e : Entry Cents) → Has s.reported e → is_amount e.content ≡ true
  pub year_amounts : (e : Entry Cents) → Has s.reported_years e → is_amount e.content ≡ true
  pub corrected_amounts : (e : Entry Cents) → Has s.corrected e → is_amount e.content ≡ true
  pub corrected_year_amounts : (e : Entry Cents) → Has s.corrected_years e
      → is_amount e.content ≡ true
  pub run_amounts : (e : Entry (Voidable PayRun)) → Has s.runs e
      → are_amounts e.content.value ≡ true
  pub paid_amounts : (e : Entry (Voidable Payment)) → Has s.payments e
      → is_amount e.content.value.cents ≡ true
  -- each added holiday is of a year whose calendar is given, and no year has more than 60 days that
  -- were given or added
  pub added_days : (day : ℕ) → Has s.added_days day → is_given s (year_of day) ≡ true
  pub few : AreFew (all_days s)
  -- each day that was taken back, or made a holiday again, was given or added as one
  pub changed : (c : DayChange) → Has s.changed_days c → is_holiday (all_days s) c.day ≡ true
  -- no day stands twice among those that were given and those that were added
  pub days_once : AreDistinct (λ (day : ℕ). day) (all_days s)
  -- each account has a name that an account may have, and a first day not after 2098
  pub names : (e : Enrolled) → Has s.accounts e → is_account_name e.name ≡ true
  pub first_days : (e : Enrolled) → Has s.accounts e
      → nat_le (year_of e.account.start) LAST_OPEN_YEAR ≡ true
  -- each account that was put right is enrolled, and its first day then is not after 2098
  pub moved_accounts : (m : Move) → Has s.moved m → is_some (enrolled_in s m.name) ≡ true
  pub moved_days : (m : Move) → Has s.moved m
      → nat_le (year_of m.beginning.start) LAST_OPEN_YEAR ≡ true
  -- each total that was reported may be kept of its account, as that is in force
  pub quarters : (e : Entry Cents) → Has s.reported e
      → IsReportable (entries_of s e.name).account (Quarter e.key)
  pub years : (e : Entry Cents) → Has s.reported_years e
      → IsReportable (entries_of s e.name).account (Year e.key)
  -- each total that was corrected was reported
  pub corrected_quarters : (e : Entry Cents) → Has s.corrected e
      → is_some (kept_at e.key (entries_of s e.name).reported) ≡ true
  pub corrected_years : (e : Entry Cents) → Has s.corrected_years e
      → is_some (kept_at e.key (entries_of s e.name).reported_years) ≡ true
  -- no open year comes before the year of its account's first day in force; no payday, and no day
  -- that a payment is for, before that first day
  pub opened_since : (e : Entry (Unit {0})) → Has s.open_years e
      → meets (has_started_in e.key) (entries_of s e.name).account ≡ true
  pub posted_since : (e : Entry (Voidable PayRun)) → Has s.runs e
      → meets (has_started e.content.value.payday) (entries_of s e.name).account ≡ true
  pub paid_since : (e : Entry (Voidable Payment)) → Has s.payments e
      → meets (has_started e.content.value.for_day) (entries_of s e.name).account ≡ true
  -- each payment has a number of 1 to 999,999,999, is of at least 0.01, and was made on a day of
  -- 2001 to 2099
  pub payment_numbers : (e : Entry (Voidable Payment)) → Has s.payments e → is_number e.key ≡ true
  pub paid_something : (e : Entry (Voidable Payment)) → Has s.payments e
      → nat_le 1 e.content.value.cents.0 ≡ true
  pub paid_in : (e : Entry (Voidable Payment)) → Has s.payments e
      → can_have_calendar (year_of e.content.value.paid) ≡ true
  -- an account, a day, and a total are put right at most 999,999,999 times, so that each correction
  -- has a number
  pub move_counts : (name : List ℕ) → length (moves_in s name) ≤ MOST_NUMBER
  pub change_counts : (day : ℕ) → length (changes_of day s.changed_days) ≤ MOST_NUMBER
  pub quarter_counts : (name : List ℕ) (quarter : ℕ)
      → length (all_at quarter (entries_of s name).corrected) ≤ MOST_NUMBER
  pub year_counts : (name : List ℕ) (year : ℕ)
      → length (all_at year (entries_of s name).corrected_years) ≤ MOST_NUMBER

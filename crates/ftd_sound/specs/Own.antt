-- When what is kept of one account is what requests may have entered of it.
use Rattle.std.specs.Prelude.{◌≡◌, ℕ, ◌+◌, ◌≤◌, true, List, map, length, is_some, nat_le, Option}
use Rattle.std.specs.Prelude.{Some}
use Rattle.ftd_days.specs.declared.cents.Cents.{Cents}
use Rattle.ftd_days.specs.declared.limits.TheConstants.{LAST_OPEN_YEAR}
use Rattle.ftd_days.specs.Calendar.{year_of}
use Rattle.ftd_rules.specs.Lists.{Has}
use Rattle.ftd_rules.specs.declared.run.PayRun.{PayRun}
use Rattle.ftd_rules.specs.declared.run.Voidable.{Voidable}
use Rattle.ftd_rules.specs.declared.payment.Payment.{Payment}
use Rattle.ftd_machine.specs.declared.limits.TheConstants.{MOST_ENTRIES, MOST_NUMBER}
use Rattle.ftd_machine.specs.declared.entries.Account.{Account}
use Rattle.ftd_machine.specs.declared.entries.Beginning.{Beginning}
use Rattle.ftd_machine.specs.declared.entries.ReturnPeriod.{ReturnPeriod}
use Rattle.ftd_machine.specs.declared.entries.ReturnPeriod.TheVariants.{Quarter, Year}
use Rattle.ftd_machine.specs.Checks.{meets}
use Rattle.ftd_machine.specs.Requests.{has_started, has_started_in}
use Rattle.ftd_machine.specs.Limits.{can_be_opened, can_have_calendar, is_amount, are_amounts}
use Rattle.ftd_machine.specs.Limits.{is_number}
use Rattle.ftd_machine.specs.State.{Entry, Entries, account_in_force, all_at, kept_at, is_open}
use Rattle.ftd_machine.specs.Sound.{AreDistinct, Follow, IsReportable}
use Rattle.ftd_machine.specs.History.{year_of_entry, HasLookback}

abbrev pub key_of : {X : Type 0} → Entry X → ℕ
key_of e = e.key

-- what stands under a key is kept once
abbrev pub AreOnce : {X : Type 0} → List (Entry X) → Type 0
AreOnce entries = AreDistinct key_of entries

-- the first days of an account: as it was enrolled, and as it was put right
pub record StartsInTime (own : Entries) : Type 0 where
  pub enrolled : (account : Account) → own.enrolled ≡ Some account
      → nat_le (year_of account.start) LAST_OPEN_YEAR ≡ true
  pub moves : (b : Beginning) → Has own.moves b → nat_le (year_of b.start) LAST_OPEN_YEAR ≡ true
  pub move_counts : length own.moves ≤ MOST_NUMBER

-- totals of quarters or of years, and their corrections
pub record AreTotalsSound (account : Option Account) (period : ℕ → ReturnPeriod)
    (reported corrected : List (Entry Cents)) : Type 0 where
  pub once : AreOnce reported
  pub periods : (e : Entry Cents) → Has reported e → IsReportable account (period e.key)
  pub amounts : (e : Entry Cents) → Has reported e → is_amount e.content ≡ true
  pub corrected_ones : (e : Entry Cents) → Has corrected e → is_some (kept_at e.key reported) ≡ true
  pub corrected_amounts : (e : Entry Cents) → Has corrected e → is_amount e.content ≡ true
  pub counts : (key : ℕ) → length (all_at key corrected) ≤ MOST_NUMBER

-- an open year: it may be opened, its calendar and that of the next year are given, it does not
-- come before the employer's first day, and it has its lookback total
pub record IsYearSound (given : List ℕ) (own : Entries) (year : ℕ) : Type 0 where
  pub is_open_year : can_be_opened year ≡ true
  pub given_is : Has given year
  pub next_is : Has given (year + 1)
  pub since : meets (has_started_in year) own.account ≡ true
  pub total : (cents : Cents) × HasLookback own year cents

-- the open years follow one another
pub record AreYearsSound (given : List ℕ) (own : Entries) : Type 0 where
  pub in_turn : Follow (map year_of_entry own.open_years)
  pub each : (e : Entry (Unit {0})) → Has own.open_years e → IsYearSound given own e.key

-- a run: its number, its amounts, and its payday, in an open year and not before the employer's
-- first day
pub record IsRunSound (own : Entries) (e : Entry (Voidable PayRun)) : Type 0 where
  pub number : is_number e.key ≡ true
  pub amounts : are_amounts e.content.value ≡ true
  pub payday : is_open own (year_of e.content.value.payday) ≡ true
  pub since : meets (has_started e.content.value.payday) own.account ≡ true

pub record AreRunsSound (own : Entries) : Type 0 where
  pub once : AreOnce own.runs
  pub count : length own.runs ≤ MOST_ENTRIES
  pub each : (e : Entry (Voidable PayRun)) → Has own.runs e → IsRunSound own e

-- a payment: its number, its amount, the day on which it was made, and the day that it is for
pub record IsPaymentSound (own : Entries) (e : Entry (Voidable Payment)) : Type 0 where
  pub number : is_number e.key ≡ true
  pub amount : is_amount e.content.value.cents ≡ true
  pub something : nat_le 1 e.content.value.cents.0 ≡ true
  pub paid_in : can_have_calendar (year_of e.content.value.paid) ≡ true
  pub for_day : is_open own (year_of e.content.value.for_day) ≡ true
  pub since : meets (has_started e.content.value.for_day) own.account ≡ true

pub record ArePaymentsSound (own : Entries) : Type 0 where
  pub once : AreOnce own.payments
  pub count : length own.payments ≤ MOST_ENTRIES
  pub each : (e : Entry (Voidable Payment)) → Has own.payments e → IsPaymentSound own e

-- what is kept of an account is what requests may have entered of it, where the calendars of these
-- years are given
pub record IsOwnSound (given : List ℕ) (own : Entries) : Type 0 where
  pub in_force : own.account ≡ account_in_force own.enrolled own.moves
  pub starts : StartsInTime own
  pub quarters : AreTotalsSound own.account Quarter own.reported own.corrected
  pub years : AreTotalsSound own.account Year own.reported_years own.corrected_years
  pub open_years : AreYearsSound given own
  pub runs : AreRunsSound own
  pub payments : ArePaymentsSound own

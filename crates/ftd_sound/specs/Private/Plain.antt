-- When what is kept of one account is sound, by its plain values: an entry is a key and a content,
-- and nothing rests on the account's name.
use Rattle.std.specs.Prelude.{◌≡◌, ℕ, ◌+◌, ◌==◌, ◌≤◌, true, Bool, List, map, length, filter, nat_le}
use Rattle.std.specs.Prelude.{All, Some}
use Rattle.ftd_days.specs.declared.cents.Cents.{Cents}
use Rattle.ftd_days.specs.declared.limits.TheConstants.{LAST_OPEN_YEAR}
use Rattle.ftd_days.specs.Calendar.{year_of}
use Rattle.ftd_rules.specs.Lists.{Has}
use Rattle.ftd_rules.specs.declared.run.PayRun.{PayRun}
use Rattle.ftd_rules.specs.declared.run.Voidable.{Voidable}
use Rattle.ftd_rules.specs.declared.payment.Payment.{Payment}
use Rattle.ftd_machine.specs.declared.limits.TheConstants.{MOST_ENTRIES, MOST_NUMBER}
use Rattle.ftd_machine.specs.declared.entries.Account.{Account}
use Rattle.ftd_machine.specs.declared.entries.Beginning.{Beginning}
use Rattle.ftd_machine.specs.declared.entries.ReturnPeriod.{ReturnPeriod}
use Rattle.ftd_machine.specs.declared.entries.ReturnPeriod.TheVariants.{Quarter, Year}
use Rattle.ftd_machine.specs.Requests.{has_started, has_started_in}
use Rattle.ftd_machine.specs.Limits.{can_be_opened, can_have_calendar, is_amount, are_amounts}
use Rattle.ftd_machine.specs.Limits.{is_number}
use Rattle.ftd_machine.specs.State.{in_force}
use Rattle.ftd_machine.specs.Sound.{AreDistinct, Follow, IsReportable}
use Rattle.ftd_sound.specs.declared.own.Own.{Own}

abbrev pub key_in : {X : Type 0} → ℕ × X → ℕ
key_in e = e.0

abbrev pub content_in : {X : Type 0} → ℕ × X → X
content_in e = e.1

-- no two numbers are the same
abbrev pub AreApart : List ℕ → Type 0
AreApart numbers = AreDistinct (λ (number : ℕ). number) numbers

-- the account as it is in force
abbrev pub account_now : Own → Account
account_now own = in_force own.moves.items own.account

-- a first day not after 2098
abbrev pub starts_in_range : ℕ → Bool
starts_in_range start = nat_le (year_of start) LAST_OPEN_YEAR

pub record AreStarts (own : Own) : Type 0 where
  pub enrolled : starts_in_range own.account.start ≡ true
  pub moves : All (λ (b : Beginning). starts_in_range b.start ≡ true) own.moves.items
  pub move_counts : length own.moves.items ≤ MOST_NUMBER

-- what stands under a key, the first one first
abbrev pub is_under : ℕ → ℕ × Cents → Bool
is_under key total = total.0 == key

abbrev pub amounts_under : ℕ → List (ℕ × Cents) → List Cents
amounts_under key totals = map content_in (filter (is_under key) totals)

-- the keys of the totals that were reported are periods of which a total may be kept
abbrev pub AreOfPeriods : Account → (ℕ → ReturnPeriod) → List (ℕ × Cents) → Type 0
AreOfPeriods account period totals =
    All (λ (e : ℕ × Cents). IsReportable (Some account) (period e.0)) totals

abbrev pub AreAllAmounts : List (ℕ × Cents) → Type 0
AreAllAmounts totals = All (λ (e : ℕ × Cents). is_amount e.1 ≡ true) totals

-- each correction is one of a total that was reported
abbrev pub AreOfReported : List (ℕ × Cents) → List (ℕ × Cents) → Type 0
AreOfReported reported corrected =
    All (λ (e : ℕ × Cents). Has (map key_in reported) e.0) corrected

-- each total was corrected at most 999,999,999 times
abbrev pub AreCounted : List (ℕ × Cents) → List (ℕ × Cents) → Type 0
AreCounted reported corrected =
    All (λ (e : ℕ × Cents). length (amounts_under e.0 corrected) ≤ MOST_NUMBER) reported

-- the totals of quarters, or of years, and their corrections, but for their periods
pub record AreTotals (reported corrected : List (ℕ × Cents)) : Type 0 where
  pub once : AreDistinct key_in reported
  pub amounts : AreAllAmounts reported
  pub corrected_ones : AreOfReported reported corrected
  pub corrected_amounts : AreAllAmounts corrected
  pub counts : AreCounted reported corrected

-- an open year, but for its lookback total
pub record IsYear (given : List ℕ) (account : Account) (year : ℕ) : Type 0 where
  pub is_open_year : can_be_opened year ≡ true
  pub given_is : Has given year
  pub next_is : Has given (year + 1)
  pub since : has_started_in year account ≡ true

pub record AreYears (given : List ℕ) (account : Account) (years : List ℕ) : Type 0 where
  pub in_turn : Follow years
  pub each : All (λ year. IsYear given account year) years

pub record IsRun (account : Account) (years : List ℕ) (e : ℕ × Voidable PayRun) : Type 0 where
  pub number : is_number e.0 ≡ true
  pub amounts : are_amounts e.1.value ≡ true
  pub payday : Has years (year_of e.1.value.payday)
  pub since : has_started e.1.value.payday account ≡ true

pub record AreRuns (account : Account) (years : List ℕ) (runs : List (ℕ × Voidable PayRun))
    : Type 0 where
  pub once : AreDistinct key_in runs
  pub count : length runs ≤ MOST_ENTRIES
  pub each : All (λ e. IsRun account years e) runs

pub record IsPayment (account : Account) (years : List ℕ) (e : ℕ × Voidable Payment)
    : Type 0 where
  pub number : is_number e.0 ≡ true
  pub amount : is_amount e.1.value.cents ≡ true
  pub something : nat_le 1 e.1.value.cents.0 ≡ true
  pub paid_in : can_have_calendar (year_of e.1.value.paid) ≡ true
  pub for_day : Has years (year_of e.1.value.for_day)
  pub since : has_started e.1.value.for_day account ≡ true

pub record ArePayments (account : Account) (years : List ℕ) (payments : List (ℕ × Voidable Payment))
    : Type 0 where
  pub once : AreDistinct key_in payments
  pub count : length payments ≤ MOST_ENTRIES
  pub each : All (λ e. IsPayment account years e) payments

-- all that is kept of the account is sound, but for the lookback totals of its open years
pub record IsSoundButTotals (given : List ℕ) (own : Own) : Type 0 where
  pub starts : AreStarts own
  pub quarter_periods : AreOfPeriods (account_now own) Quarter own.reported.items
  pub quarters : AreTotals own.reported.items own.corrected.items
  pub year_periods : AreOfPeriods (account_now own) Year own.reported_years.items
  pub years : AreTotals own.reported_years.items own.corrected_years.items
  pub open_years : AreYears given (account_now own) own.open_years.items
  pub runs : AreRuns (account_now own) own.open_years.items own.runs.items
  pub payments : ArePayments (account_now own) own.open_years.items own.payments.items

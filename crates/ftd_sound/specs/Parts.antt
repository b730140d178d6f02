-- A state is sound part by part: its days, and account by account.
use Rattle.std.specs.Prelude.{◌≡◌, ℕ, ◌≤◌, true, List, map, length, is_some}
use Rattle.ftd_days.specs.Calendar.{year_of}
use Rattle.ftd_days.specs.Business.{is_holiday}
use Rattle.ftd_days.specs.Holidays.{YearDays, AreFew}
use Rattle.ftd_rules.specs.Accounts.{is_account_name}
use Rattle.ftd_rules.specs.Lists.{Has}
use Rattle.ftd_machine.specs.declared.limits.TheConstants.{MOST_NUMBER}
use Rattle.ftd_machine.specs.Limits.{can_have_calendar, is_calendar}
use Rattle.ftd_machine.specs.State.{State, Enrolled, Entry, Move, DayChange, all_days, enrolled_in}
use Rattle.ftd_machine.specs.State.{entries_of, changes_of}
use Rattle.ftd_machine.specs.Sound.{AreDistinct, name_of, year_of_calendar}
use Rattle.ftd_sound.specs.Own.{IsOwnSound}

-- the years whose calendars are given
abbrev pub given_years : State → List ℕ
given_years s = map year_of_calendar s.calendars

-- the calendars, the added holidays and the changes of days are what requests may have entered
pub record AreDaysSound (s : State) : Type 0 where
  pub calendars : AreDistinct year_of_calendar s.calendars
  pub are_calendars : (c : YearDays) → Has s.calendars c
      → (can_have_calendar c.year ≡ true) × (is_calendar c.year c.days ≡ true)
  pub added_days : (day : ℕ) → Has s.added_days day → Has (given_years s) (year_of day)
  pub few : AreFew (all_days s)
  pub days_once : AreDistinct (λ (day : ℕ). day) (all_days s)
  pub changed : (c : DayChange) → Has s.changed_days c → is_holiday (all_days s) c.day ≡ true
  pub change_counts : (day : ℕ) → length (changes_of day s.changed_days) ≤ MOST_NUMBER

-- each is an entry of an account that is enrolled
abbrev pub AreOfEnrolled : {X : Type 0} → State → List (Entry X) → Type 0
AreOfEnrolled s entries =
    (e : Entry _) → Has entries e → is_some (enrolled_in s e.name) ≡ true

pub record IsOfEnrolled (s : State) : Type 0 where
  pub moved : (m : Move) → Has s.moved m → is_some (enrolled_in s m.name) ≡ true
  pub reported : AreOfEnrolled s s.reported
  pub reported_years : AreOfEnrolled s s.reported_years
  pub corrected : AreOfEnrolled s s.corrected
  pub corrected_years : AreOfEnrolled s s.corrected_years
  pub open_years : AreOfEnrolled s s.open_years
  pub runs : AreOfEnrolled s s.runs
  pub payments : AreOfEnrolled s s.payments

-- the account has a name that an account may have, and what is kept of it is sound
pub record IsAccountSound (s : State) (e : Enrolled) : Type 0 where
  pub name : is_account_name e.name ≡ true
  pub own : IsOwnSound (given_years s) (entries_of s e.name)

pub record IsSoundByParts (s : State) : Type 0 where
  pub days : AreDaysSound s
  pub accounts : AreDistinct name_of s.accounts
  pub of_enrolled : IsOfEnrolled s
  pub each : (e : Enrolled) → Has s.accounts e → IsAccountSound s e

-- The journal of a state: requests by which an empty desk becomes it, in a fixed order. And two
-- states that have the same entries, in whatever order they were accepted.
use Rattle.std.specs.Prelude.{◌≡◌, ℕ, ◌+◌, Bool, true, false, nat_lt, if◌then◌else◌, List, [], ◌∷◌}
use Rattle.std.specs.Prelude.{◌++◌, map, flat_map, filter}
use Rattle.std.specs.Ordering.{nat_cmp, is_lt}
use Rattle.std.specs.Cmp.Lexicographic.{slice_cmp}
use Rattle.ftd_days.specs.Business.{is_holiday}
use Rattle.ftd_days.specs.Holidays.{YearDays}
use Rattle.ftd_days.specs.declared.cents.Cents.{Cents}
use Rattle.ftd_rules.specs.Lists.{Has}
use Rattle.ftd_rules.specs.declared.run.PayRun.{PayRun}
use Rattle.ftd_rules.specs.declared.payment.Payment.{Payment}
use Rattle.ftd_rules.specs.declared.run.Voidable.{Voidable}
use Rattle.ftd_machine.specs.State.{State, Enrolled, Entry, entries_of, enrolled_in, moves_in}
use Rattle.ftd_machine.specs.State.{is_of}
use Rattle.ftd_machine.specs.State.{all_days, calendar_at, changes_of, kept_at, all_at, is_open}
use Rattle.ftd_machine.specs.Checks.{Answer}
use Rattle.ftd_machine.specs.Laws.{is_change}
use Rattle.ftd_machine.specs.declared.entries.ReturnPeriod.{ReturnPeriod}
use Rattle.ftd_machine.specs.declared.entries.ReturnPeriod.TheVariants.{Quarter, Year}
use Rattle.ftd_machine.specs.declared.requests.Request.{Request}
use Rattle.ftd_machine.specs.declared.requests.Request.TheVariants.{Enter, Post, Void, Pay, VoidPay}
use Rattle.ftd_machine.specs.declared.requests.Request.TheVariants.{Correct}
use Rattle.ftd_machine.specs.declared.requests.Entry.TheVariants as entry
use Rattle.ftd_machine.specs.declared.requests.Correction.{Correction}
use Rattle.ftd_machine.specs.declared.requests.Correction.TheVariants as correction

-- ---- lists in order

-- x put before the first that it comes before
abbrev pub put_in : {X : Type 0} → (X → X → Bool) → X → List X → List X
put_in before x [] = x ∷ []
put_in before x (y ∷ ys) = if before x y then x ∷ y ∷ ys else y ∷ put_in before x ys

-- the same list in order
abbrev pub in_order : {X : Type 0} → (X → X → Bool) → List X → List X
in_order before [] = []
in_order before (x ∷ xs) = put_in before x (in_order before xs)

-- by year, by name byte by byte, by key
abbrev pub is_calendar_before : YearDays → YearDays → Bool
is_calendar_before a b = nat_lt a.year b.year

abbrev pub is_account_before : Enrolled → Enrolled → Bool
is_account_before a b = is_lt (slice_cmp nat_cmp a.name b.name)

abbrev pub is_key_before : {X : Type 0} → Entry X → Entry X → Bool
is_key_before a b = nat_lt a.key b.key

-- ---- corrections

-- each correction of a list under its number, from this number on; and from 1 on
abbrev pub corrections_from : {X : Type 0} → ℕ → (X → Correction) → List X → List Request
corrections_from number of [] = []
corrections_from number of (x ∷ xs) = Correct number (of x) ∷ corrections_from (number + 1) of xs

abbrev pub corrections : {X : Type 0} → (X → Correction) → List X → List Request
corrections of xs = corrections_from 1 of xs

-- ---- calendars and holidays

abbrev pub calendar_given : YearDays → Request
calendar_given c = Enter (entry.Calendar c.year c.days)

abbrev pub holiday_added : ℕ → Request
holiday_added day = Enter (entry.Holiday day)

abbrev pub day_changes : State → ℕ → List Request
day_changes s day =
    corrections (λ is_holiday. correction.Holiday day is_holiday) (changes_of day s.changed_days)

-- the calendars by year, the holidays that were added, and the changes of each day that was given
-- or added
abbrev pub days_journal : State → List Request
days_journal s =
    map calendar_given (in_order is_calendar_before s.calendars)
    ++ map holiday_added (in_order nat_lt s.added_days)
    ++ flat_map (day_changes s) (in_order nat_lt (all_days s))

-- ---- an account

-- as it was enrolled, and as it was put right
abbrev pub account_enrolled : State → Enrolled → List Request
account_enrolled s e =
    Enter (entry.Account e.name e.account)
    ∷ corrections (λ beginning. correction.Account e.name beginning) (moves_in s e.name)

-- the account's entries, by key
abbrev pub own_by_key : {X : Type 0} → List ℕ → List (Entry X) → List (Entry X)
own_by_key name entries = in_order is_key_before (filter (is_of name) entries)

-- a total as it was first reported, and as it was put right
abbrev pub total_reported : (ℕ → ReturnPeriod) → List (Entry Cents) → Entry Cents → List Request
total_reported period corrected e =
    Enter (entry.Total e.name (period e.key) e.content)
    ∷ corrections (λ cents. correction.Total e.name (period e.key) cents)
    (all_at e.key (filter (is_of e.name) corrected))

abbrev pub year_opened : Entry (Unit {0}) → Request
year_opened e = Enter (entry.Year e.name e.key)

-- the request by which it is voided, if it is
abbrev pub void_if : Bool → Request → List Request
void_if true request = request ∷ []
void_if false request = []

abbrev pub run_posted : Entry (Voidable PayRun) → List Request
run_posted e =
    Post e.name e.key e.content.value ∷ void_if e.content.voided (Void e.name e.key)

abbrev pub payment_made : Entry (Voidable Payment) → List Request
payment_made e =
    Pay e.name e.key e.content.value ∷ void_if e.content.voided (VoidPay e.name e.key)

-- the account, the totals of its quarters and of its years, its open years as they follow one
-- another, its runs and its payments by number, each with its void
abbrev pub account_journal : State → Enrolled → List Request
account_journal s e =
    account_enrolled s e
    ++ flat_map (total_reported Quarter s.corrected) (own_by_key e.name s.reported)
    ++ flat_map (total_reported Year s.corrected_years) (own_by_key e.name s.reported_years)
    ++ map year_opened (filter (is_of e.name) s.open_years)
    ++ flat_map run_posted (own_by_key e.name s.runs)
    ++ flat_map payment_made (own_by_key e.name s.payments)

-- ---- the whole desk

-- the days, and then account by account, by name
abbrev pub journal : State → List Request
journal s =
    days_journal s ++ flat_map (account_journal s) (in_order is_account_before s.accounts)

-- each request was done, or its run was posted or voided
abbrev pub AreChanges : List Answer → Type 0
AreChanges answers = (answer : Answer) → Has answers answer → is_change answer ≡ true

-- ---- the same entries

-- of an account: what stands under each key is the same, and its corrections are, the first one
-- first
pub record HasSameOf (s t : State) (name : List ℕ) : Type 0 where
  pub enrolled : enrolled_in t name ≡ enrolled_in s name
  pub moves : moves_in t name ≡ moves_in s name
  pub reported : (quarter : ℕ) → kept_at quarter (entries_of t name).reported
      ≡ kept_at quarter (entries_of s name).reported
  pub corrected : (quarter : ℕ) → all_at quarter (entries_of t name).corrected
      ≡ all_at quarter (entries_of s name).corrected
  pub reported_years : (year : ℕ) → kept_at year (entries_of t name).reported_years
      ≡ kept_at year (entries_of s name).reported_years
  pub corrected_years : (year : ℕ) → all_at year (entries_of t name).corrected_years
      ≡ all_at year (entries_of s name).corrected_years
  pub open_years : (year : ℕ) → is_open (entries_of t name) year ≡ is_open (entries_of s name) year
  pub runs : (number : ℕ) → kept_at number (entries_of t name).runs
      ≡ kept_at number (entries_of s name).runs
  pub payments : (number : ℕ) → kept_at number (entries_of t name).payments
      ≡ kept_at number (entries_of s name).payments

-- the calendar of each year, each added day, the changes of each day, and each account
pub record SameEntries (s t : State) : Type 0 where
  pub calendars : (year : ℕ) → calendar_at t year ≡ calendar_at s year
  pub added_days : (day : ℕ) → is_holiday t.added_days day ≡ is_holiday s.added_days day
  pub changed_days : (day : ℕ) → changes_of day t.changed_days ≡ changes_of day s.changed_days
  pub accounts : (name : List ℕ) → HasSameOf s t name

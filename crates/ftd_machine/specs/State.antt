-- What the desk keeps: the entries that were accepted, in the order in which they were. It keeps no
-- obligation, no total, no opening and no turn: these follow from the entries.
use Rattle.std.specs.Prelude.{ℕ, ◌==◌, ◌-◌, Bool, true, List, [], ◌∷◌, ◌++◌, bytes_eq, filter}
use Rattle.std.specs.Prelude.{find, map, slice_get, Option, option_map, is_some}
use Rattle.ftd_days.specs.Calendar.{year_of}
use Rattle.ftd_days.specs.Holidays.{YearDays, holidays_of, calendar_of}
use Rattle.ftd_days.specs.declared.cents.Cents.{Cents}
use Rattle.ftd_machine.specs.declared.entries.Account.{Account}
use Rattle.ftd_machine.specs.declared.entries.Beginning.{Beginning}
use Rattle.ftd_machine.specs.declared.entries.ReturnPeriod.{ReturnPeriod}
use Rattle.ftd_machine.specs.declared.entries.ReturnPeriod.TheVariants.{Quarter, Year}
use Rattle.ftd_rules.specs.declared.run.PayRun.{PayRun}
use Rattle.ftd_rules.specs.declared.payment.Payment.{Payment}
use Rattle.ftd_rules.specs.declared.run.Voidable.{Voidable}

-- an account that was enrolled under a name
pub record Enrolled : Type 0 where
  pub name : List ℕ
  pub account : Account

-- what was accepted of an account under a key: a quarter, a year, or the number of a run or payment
pub record Entry (X : Type 0) : Type 0 where
  pub name : List ℕ
  pub key : ℕ
  pub content : X

-- how an account begins, where that was put right
pub record Move : Type 0 where
  pub name : List ℕ
  pub beginning : Beginning

-- a day that was taken back as a holiday, or made one again
pub record DayChange : Type 0 where
  pub day : ℕ
  pub is_holiday : Bool

-- the accounts; the calendars as they were first given, and the holidays added to them; the figures
-- of quarters and of years that were reported; the years that are open; the runs and the payments;
-- and what was put right: figures of quarters and of years, days, and accounts, each in the order
-- of the numbers of its corrections
pub record State : Type 0 where
  pub accounts : List Enrolled
  pub calendars : List YearDays
  pub added_days : List ℕ
  pub reported : List (Entry Cents)
  pub reported_years : List (Entry Cents)
  pub open_years : List (Entry (Unit {0}))
  pub runs : List (Entry (Voidable PayRun))
  pub payments : List (Entry (Voidable Payment))
  pub corrected : List (Entry Cents)
  pub corrected_years : List (Entry Cents)
  pub changed_days : List DayChange
  pub moved : List Move

-- nothing was accepted yet
abbrev pub nothing : State
nothing = record {
  accounts = [];
  calendars = [];
  added_days = [];
  reported = [];
  reported_years = [];
  open_years = [];
  runs = [];
  payments = [];
  corrected = [];
  corrected_years = [];
  changed_days = [];
  moved = [];
}

-- what is in force: the last correction, or where there is none what was first given
abbrev pub latest : {X : Type 0} → X → List X → X
latest first [] = first
latest first (x ∷ xs) = latest x xs

-- the correction of a number: the first one has number 1
abbrev pub numbered : {X : Type 0} → ℕ → List X → Option X
numbered number corrections = slice_get corrections (number - 1)

-- the changes of a day, the first one first
abbrev pub says_holiday : DayChange → Bool
says_holiday change = change.is_holiday

abbrev pub is_on_day : ℕ → DayChange → Bool
is_on_day day change = change.day == day

abbrev pub changes_of : ℕ → List DayChange → List Bool
changes_of day changes = map says_holiday (filter (is_on_day day) changes)

-- a day that was given or added as a holiday is one, unless its last change takes it back
abbrev pub is_in_force : List DayChange → ℕ → Bool
is_in_force changes day = latest true (changes_of day changes)

-- the days that were given and those that were added
abbrev pub all_days : State → List ℕ
all_days s = holidays_of s.calendars ++ s.added_days

-- the legal holidays: those of them that are in force
abbrev pub holidays : State → List ℕ
holidays s = filter (is_in_force s.changed_days) (all_days s)

-- the calendar of a year, as it was first given, if it was
abbrev pub days_of : YearDays → List ℕ
days_of calendar = calendar.days

abbrev pub calendar_at : State → ℕ → Option (List ℕ)
calendar_at s year = option_map days_of (calendar_of s.calendars year)

abbrev pub is_given : State → ℕ → Bool
is_given s year = is_some (calendar_at s year)

-- the holidays that were added to a year
abbrev pub added_in : State → ℕ → List ℕ
added_in s year = filter (λ day. year_of day == year) s.added_days

-- what was accepted of one account: as it was enrolled, its corrections, and as it is in force; and
-- its entries. The reply to a request that names an account, and what the desk keeps of it then,
-- follow from this, the calendars, the added holidays and the changed days.
pub record Entries : Type 0 where
  pub enrolled : Option Account
  pub moves : List Beginning
  pub account : Option Account
  pub reported : List (Entry Cents)
  pub reported_years : List (Entry Cents)
  pub open_years : List (Entry (Unit {0}))
  pub runs : List (Entry (Voidable PayRun))
  pub payments : List (Entry (Voidable Payment))
  pub corrected : List (Entry Cents)
  pub corrected_years : List (Entry Cents)

abbrev pub is_named : List ℕ → Enrolled → Bool
is_named name e = bytes_eq e.name name

abbrev pub account_of : Enrolled → Account
account_of e = e.account

abbrev pub is_of : {X : Type 0} → List ℕ → Entry X → Bool
is_of name e = bytes_eq e.name name

abbrev pub enrolled_in : State → List ℕ → Option Account
enrolled_in s name = option_map account_of (find (is_named name) s.accounts)

abbrev pub is_move_of : List ℕ → Move → Bool
is_move_of name m = bytes_eq m.name name

abbrev pub beginning_of : Move → Beginning
beginning_of m = m.beginning

abbrev pub moves_of : List ℕ → List Move → List Beginning
moves_of name moved = map beginning_of (filter (is_move_of name) moved)

abbrev pub moves_in : State → List ℕ → List Beginning
moves_in s name = moves_of name s.moved

-- an account in force begins as it was put right last, and keeps its form
abbrev pub first_beginning : Account → Beginning
first_beginning account = record { start = account.start; carried = account.carried }

abbrev pub begins_as : Account → Beginning → Account
begins_as account b = record { start = b.start; carried = b.carried; form = account.form }

abbrev pub in_force : List Beginning → Account → Account
in_force moves account = begins_as account (latest (first_beginning account) moves)

abbrev pub account_in_force : Option Account → List Beginning → Option Account
account_in_force enrolled moves = option_map (in_force moves) enrolled

abbrev pub entries_of : State → List ℕ → Entries
entries_of s name = record {
  enrolled = enrolled_in s name;
  moves = moves_in s name;
  account = account_in_force (enrolled_in s name) (moves_in s name);
  reported = filter (is_of name) s.reported;
  reported_years = filter (is_of name) s.reported_years;
  open_years = filter (is_of name) s.open_years;
  runs = filter (is_of name) s.runs;
  payments = filter (is_of name) s.payments;
  corrected = filter (is_of name) s.corrected;
  corrected_years = filter (is_of name) s.corrected_years;
}

-- what is kept under a key, if anything is
abbrev pub has_key : {X : Type 0} → ℕ → Entry X → Bool
has_key key e = e.key == key

abbrev pub content_of : {X : Type 0} → Entry X → X
content_of e = e.content

abbrev pub kept_at : {X : Type 0} → ℕ → List (Entry X) → Option X
kept_at key entries = option_map content_of (find (has_key key) entries)

-- the year of the account is open
abbrev pub is_open : Entries → ℕ → Bool
is_open own year = is_some (kept_at year own.open_years)

-- the corrections of what is kept under a key, the first one first
abbrev pub all_at : {X : Type 0} → ℕ → List (Entry X) → List X
all_at key corrected = map content_of (filter (has_key key) corrected)

-- the figure in force of a quarter or a year, if one was reported
abbrev pub figure_at : ℕ → List (Entry Cents) → List (Entry Cents) → Option Cents
figure_at key reported corrected =
    option_map (λ cents. latest cents (all_at key corrected)) (kept_at key reported)

-- the total of a period as it was first reported, if it was, and its corrections, the first one
-- first
abbrev pub reported_at : Entries → ReturnPeriod → Option Cents
reported_at own (Quarter quarter) = kept_at quarter own.reported
reported_at own (Year year) = kept_at year own.reported_years

abbrev pub corrections_at : Entries → ReturnPeriod → List Cents
corrections_at own (Quarter quarter) = all_at quarter own.corrected
corrections_at own (Year year) = all_at year own.corrected_years

-- the total of the period that is in force, if one was reported
abbrev pub in_force_at : Entries → ReturnPeriod → Option Cents
in_force_at own period =
    option_map (λ cents. latest cents (corrections_at own period)) (reported_at own period)

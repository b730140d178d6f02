-- What is known of an account while several of its runs are posted.
use Rattle.std.specs.Prelude.{◌≡◌, ◌⊎◌, Bool, false, if◌then◌else◌, ℕ, ◌+◌, ◌==◌, ◌≤◌, ◌<◌, nat_le}
use Rattle.std.specs.Prelude.{List, filter, Option, Some, None, IfSome}
use Rattle.std.specs.List.{list_any}
use Rattle.sqlite.specs.State as database
use Rattle.ftd_days.specs.Business.{is_holiday}
use Rattle.ftd_days.specs.Calendar.{year_of, year_start, last_day}
use Rattle.ftd_days.specs.Holidays.{holidays_of}
use Rattle.ftd_rules.specs.Liability.{liability}
use Rattle.ftd_rules.specs.Lists.{Has}
use Rattle.ftd_rules.specs.declared.Obligation.{Obligation}
use Rattle.ftd_rules.specs.declared.YearLine.{YearLine}
use Rattle.ftd_rules.specs.declared.run.PayRun.{PayRun}
use Rattle.ftd_rules.specs.declared.run.Voidable.{Voidable}
use Rattle.ftd_sql.specs.Standing.{Tables}
use Rattle.ftd_machine.specs.State.{State, Entries, entries_of, holidays, is_open, kept_at}
use Rattle.ftd_machine.specs.History.{AreLinesOf, AreOwed, live_sums}
use Rattle.ftd_machine.specs.Checks.{Answer, first_of}
use Rattle.ftd_machine.specs.Requests.{post_checks}
use Rattle.ftd_machine.specs.Step.{Step}
use Rattle.ftd_machine.specs.Sound.{IsSound}
use Rattle.ftd_machine.specs.declared.requests.Request.TheVariants.{Post}
use Rattle.ftd_entries.specs.Opening.{is_line_of}
use Rattle.ftd_entries.specs.Standing.{StandsFor}
use Rattle.ftd_entries.specs.Words.{IsKept}
use Rattle.ftd_posting.specs.declared.books.Book.{Book}

-- the first year of which the book knows the holidays and the runs
abbrev pub first_year : Book → ℕ
first_year book = book.from

-- of the days of the year exactly those are holidays that the state keeps as such
abbrev pub AreHolidaysIn : State → List ℕ → ℕ → Type 0
AreHolidaysIn s known year =
    (day : ℕ) → year_of day ≡ year → is_holiday (holidays s) day ≡ is_holiday known day

-- the obligation begins on the day or later
abbrev pub begins_since : ℕ → Obligation → Bool
begins_since since o = nat_le since o.first

-- these are the account's obligations that begin on the day or later, with these legal holidays
abbrev pub AreOwedSince : ℕ → List ℕ → Entries → List Obligation → Type 0
AreOwedSince since holidays own rows =
    (all : List Obligation) × AreOwed holidays own all × (rows ≡ filter (begins_since since) all)

-- none of the account's runs has a greater number
abbrev pub HasNoneAbove : Entries → ℕ → Type 0
HasNoneAbove own greatest = (number : ℕ) → greatest < number → kept_at number own.runs ≡ None

-- a number is known, and this one is greater
abbrev pub IsAbove : Option ℕ → ℕ → Type 0
IsAbove known number = (greatest : ℕ) × (known ≡ Some greatest) × (greatest < number)

-- a number was known, and neither it nor this one is greater than the later one
abbrev pub IsReached : Option ℕ → ℕ → ℕ → Type 0
IsReached known number later =
    (greatest : ℕ) × (known ≡ Some greatest) × (greatest ≤ later) × (number ≤ later)

-- a number such that none of the account's runs has a greater one, if one is known: where it has no
-- runs, every number is one
abbrev pub greatest_known : Book → ℕ → Option ℕ
greatest_known book count = if count == 0 then Some 0 else book.greatest

-- what the checks of a run say by the book, and by what is kept under its number
abbrev pub checks_by : List ℕ → ℕ → PayRun → ℕ → Book → Option (Voidable PayRun) → Option Answer
checks_by name number run count book kept =
    first_of (post_checks name number run (Some book.account) kept
    (list_any (is_line_of (year_of run.payday)) book.ledger.years.lines.items) count)

-- the book is right of the account that the state keeps under the name: what it was enrolled as,
-- its open years, the holidays of those from the first year on and of the years after them, the
-- liability of its live runs and its obligations from that year on, and, where it is known, a
-- number such that none of its runs has a greater one
pub record IsBook (s : State) (name : List ℕ) (book : Book) : Type 0 where
  pub account : (entries_of s name).account ≡ Some book.account
  pub lines : AreLinesOf (entries_of s name) book.ledger.years.lines.items
  pub since : book.ledger.since ≡ year_start book.from
  pub owed : AreOwedSince book.ledger.since (holidays s) (entries_of s name) book.ledger.rows.items
  pub holidays : (line : YearLine) → Has book.ledger.years.lines.items line → book.from ≤ line.year
      → AreHolidaysIn s (holidays_of book.ledger.years.holidays) line.year
      × AreHolidaysIn s (holidays_of book.ledger.years.holidays) (line.year + 1)
  pub sums : (from to : ℕ) → year_start book.from ≤ from → to ≤ last_day
      → liability (live_sums (entries_of s name)) from to ≡ liability book.ledger.sums.items from to
  pub numbers : IfSome book.greatest (HasNoneAbove (entries_of s name))

-- the state keeps no account under the name, or its year is not open: there is no book of it for
-- runs of the year
abbrev pub HasNoYear : State → List ℕ → ℕ → Type 0
HasNoYear s name year =
    ((entries_of s name).account ≡ None) ⊎ (is_open (entries_of s name) year ≡ false)

-- within a transaction over rows that stand for a state, of which the book is right, the run is
-- answered as the machine answers it, the rows are those of its next state, and the book is right
-- of that
abbrev pub PostsBy : List ℕ → ℕ → PayRun → Book → Book → Answer → database.State → database.State
    → Tables → Type 0
PostsBy name number run old new answer before after t =
    (s : State) → StandsFor t s → IsSound s → IsBook s name old
    → (next : State) × Step s (Post name number run) answer next
    × IsKept after.now next × IsBook next name new

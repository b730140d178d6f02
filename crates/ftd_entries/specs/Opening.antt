-- A year that is opened.
use Rattle.std.specs.Prelude.{◌≡◌, ◌⊎◌, ◌==◌, ◌&&◌, ◌-◌, ◌+◌, nat_lt, is_some, ℕ, Bool, List}
use Rattle.std.specs.Prelude.{Option, None, length}
use Rattle.std.specs.List.{list_any}
use Rattle.ftd_sql.specs.Standing.{Tables}
use Rattle.ftd_machine.specs.declared.entries.Account.{Account}
use Rattle.ftd_machine.specs.State.{State, entries_of, is_open, is_given}
use Rattle.ftd_machine.specs.Sound.{IsSound}
use Rattle.ftd_entries.specs.Standing.{StandsFor}
use Rattle.ftd_entries.specs.declared.open_years.KnownYear.{KnownYear}
use Rattle.ftd_days.specs.declared.cents.Cents.{Cents}
use Rattle.ftd_rules.specs.declared.Kind.TheVariants.{Monthly, Semiweekly}
use Rattle.ftd_rules.specs.declared.YearLine.{YearLine}
use Rattle.ftd_rules.specs.Years.{OpensSemiweekly}

-- the line is of the year
abbrev pub is_line_of : ℕ → YearLine → Bool
is_line_of year line = line.year == year

-- the line is of the year before, and has a turn
abbrev pub turns_into : ℕ → YearLine → Bool
turns_into year line = nat_lt line.year year && ((year - line.year == 1) && is_some line.turn)

-- the year opens semiweekly where it has to, and else monthly
abbrev pub HasOpening : List YearLine → YearLine → Type 0
HasOpening lines line =
    ((line.opening ≡ Semiweekly) × OpensSemiweekly lines line)
    ⊎ ((line.opening ≡ Monthly) × (OpensSemiweekly lines line → ⊥))

-- the line of a year that is opened after these: with its lookback total, carried as the account is
-- if it is the first, with its opening, and without a turn, since no payday lies in it
pub record IsNextLine (carried : Bool) (lines : List YearLine) (year : ℕ) (total : Cents)
    (line : YearLine) : Type 0 where
  pub year_is : line.year ≡ year
  pub lookback : line.lookback ≡ total
  pub is_carried : line.carried ≡ ((length lines == 0) && carried)
  pub opening : HasOpening lines line
  pub turn : line.turn ≡ None

-- what a state keeps of the account and of the year: the account, whether the year is open, and
-- whether its calendar and that of the next year are given
pub record KeepsYear (name : List ℕ) (year : ℕ) (account : Option Account) (there given next : Bool)
    (s : State) : Type 0 where
  pub account_is : (entries_of s name).account ≡ account
  pub there_is : is_open (entries_of s name) year ≡ there
  pub given_is : is_given s year ≡ given
  pub next_is : is_given s (year + 1) ≡ next

-- this is what each sound state keeps for which the tables stand, and the lines are those of the
-- account
abbrev pub KnowsToOpen : List ℕ → ℕ → KnownYear → Tables → Type 0
KnowsToOpen name year known t =
    (s : State) (stands : StandsFor t s) → IsSound s
    → KeepsYear name year known.account
    (list_any (is_line_of year) known.lines.items) known.given known.next s
    × (known.lines.items ≡ (stands.settled name).lines)

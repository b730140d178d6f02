-- Rows of what is kept, as they are told, and what is known of them by what the tables have.
use Rattle.std.specs.Prelude.{◌≡◌, ◌==◌, ◌&&◌, ◌||◌, ◌↔◌, ◌++◌, ℕ, nat_lt, Bool, true, false, List}
use Rattle.std.specs.Prelude.{◌⊎◌, ◌≤◌, map, Some}
use Rattle.std.specs.List.{All}
use Rattle.ftd_days.specs.declared.limits.TheConstants.{FIRST_YEAR, LAST_OPEN_YEAR}
use Rattle.ftd_rules.specs.declared.TheConstants.{MOST_CENTS}
use Rattle.ftd_rules.specs.declared.Form.{Form}
use Rattle.ftd_rules.specs.declared.Form.TheVariants.{F941, F943}
use Rattle.ftd_rules.specs.declared.YearLine.{YearLine}
use Rattle.ftd_rules.specs.Lists.{Has}
use Rattle.ftd_rules.specs.Lookback.{IsLookback, IsFirstMissing, IsYearLookback, IsYearMissing}
use Rattle.ftd_sql.specs.Standing.{Tables}
use Rattle.ftd_store.specs.Holidays.{is_kept}
use Rattle.ftd_days.specs.declared.cents.Cents.{Cents}
use Rattle.ftd_store.specs.declared.correction_cells.HolidayChange.{HolidayChange}
use Rattle.ftd_store.specs.declared.kept_cells.NumberedRun.{NumberedRun}
use Rattle.ftd_store.specs.declared.kept_cells.QuarterTotal.{QuarterTotal}
use Rattle.ftd_store.specs.declared.kept_cells.YearTotal.{YearTotal}
use Rattle.ftd_machine.specs.Agenda.{EachToLater}
use Rattle.ftd_machine.specs.Kept.{IsTotal, IsTotalBefore}
use Rattle.ftd_machine.specs.Kept.{period_number, as_first_reported, line_of}
use Rattle.ftd_machine.specs.Kept.{IsAdded, IsDayBefore, kept_days}
use Rattle.ftd_machine.specs.History.{AreLinesOf, HasLookback}
use Rattle.ftd_machine.specs.Requests.{form_for}
use Rattle.ftd_machine.specs.Sound.{IsSound}
use Rattle.ftd_machine.specs.State.{State, Entries, entries_of, calendar_at, reported_at}
use Rattle.ftd_machine.specs.declared.entries.Account.{Account}
use Rattle.ftd_machine.specs.declared.kept.KeptHoliday.{KeptHoliday}
use Rattle.ftd_machine.specs.declared.kept.KeptRun.{KeptRun}
use Rattle.ftd_machine.specs.declared.kept.KeptTotal.{KeptTotal}
use Rattle.ftd_machine.specs.declared.entries.ReturnPeriod.TheVariants.{Quarter, Year}
use Rattle.ftd_machine.specs.declared.kept.KeptYear.{KeptYear}
use Rattle.ftd_entries.specs.Known.{KnowsFigure}
use Rattle.ftd_entries.specs.Standing.{StandsFor}

-- ---- open years

-- the total of a quarter or a year, as it was reported
abbrev pub quarter_figure : QuarterTotal → ℕ × Cents
quarter_figure row = (row.quarter, row.cents)

abbrev pub year_figure : YearTotal → ℕ × Cents
year_figure row = (row.year, row.cents)

-- the lookback total of a year by the totals of quarters, or on Form 943 by those of years
abbrev pub IsLookbackBy : Form → List (ℕ × Cents) → List (ℕ × Cents) → ℕ → ℕ → Cents → Type 0
IsLookbackBy F941 quarters years start year total = IsLookback quarters start year total.0
IsLookbackBy F943 quarters years start year total = IsYearLookback years start year total

-- there is none by the totals of quarters: one is more than 999,999,999.99, or one of the lookback
-- period is missing
abbrev pub LacksQuarter : List (ℕ × Cents) → ℕ → ℕ → Type 0
LacksQuarter quarters start year =
    (All (λ figure. figure.1.0 ≤ MOST_CENTS) quarters → ⊥)
    ⊎ ((quarter : ℕ) × IsFirstMissing quarters start year quarter)

-- there is none by the totals of years: that of the lookback period is missing
abbrev pub LacksYear : List (ℕ × Cents) → ℕ → ℕ → Type 0
LacksYear years start year = (missing : ℕ) × IsYearMissing years start year missing

-- there is none by those that count on the form, or the year is none of 2001 to 2098
abbrev pub LacksLookback : Form → List (ℕ × Cents) → List (ℕ × Cents) → ℕ → ℕ → Type 0
LacksLookback F941 quarters years start year =
    (FIRST_YEAR ≤ year → year ≤ LAST_OPEN_YEAR → ⊥) ⊎ LacksQuarter quarters start year
LacksLookback F943 quarters years start year =
    (FIRST_YEAR ≤ year → year ≤ LAST_OPEN_YEAR → ⊥) ⊎ LacksYear years start year

-- so of the year of one of these lines
abbrev pub LacksOne : Account → List (ℕ × Cents) → List (ℕ × Cents) → List YearLine → Type 0
LacksOne account quarters years lines =
    (line : YearLine) × Has lines line
    × LacksLookback account.form quarters years account.start line.year

-- the open year is told with its line, and with its lookback total by these totals
pub record IsKeptYear (account : Account) (quarters years : List (ℕ × Cents)) (line : YearLine)
    (x : KeptYear) : Type 0 where
  pub is_line : x.line ≡ line
  pub is_lookback : IsLookbackBy account.form quarters years account.start line.year
      x.first_lookback

-- they are the open years of an account of which this was accepted, each with its lookback total by
-- the totals as they were first reported
pub record AreYearsOf (own : Entries) (rows : List KeptYear) : Type 0 where
  pub are_lines : AreLinesOf own (map line_of rows)
  pub first_lookbacks : (x : KeptYear) → Has rows x
      → HasLookback (as_first_reported own) x.line.year x.first_lookback

-- so in each sound state for which the tables stand, and in which the account is this one
abbrev pub KnowsYears : List ℕ → Account → List KeptYear → Tables → Type 0
KnowsYears name account rows t =
    (s : State) → StandsFor t s → IsSound s → (entries_of s name).account ≡ Some account
    → AreYearsOf (entries_of s name) rows

-- ---- reported totals

-- a total as it was first reported; what is in force is not read yet, and stands as the same
abbrev pub kept_quarter : QuarterTotal → KeptTotal
kept_quarter row = record {
  period = Quarter row.quarter;
  cents = row.cents;
  first = row.cents;
}

abbrev pub kept_year : YearTotal → KeptTotal
kept_year row = record { period = Year row.year; cents = row.cents; first = row.cents }

abbrev pub is_total_before : KeptTotal → KeptTotal → Bool
is_total_before a b = nat_lt (period_number a.period) (period_number b.period)

-- the account on the form reported it so first, and what is in force stands as the same
pub record IsFirstTotal (form : Form) (own : Entries) (x : KeptTotal) : Type 0 where
  pub of_form : form_for x.period ≡ form
  pub same : x.cents ≡ x.first
  pub first_reported : reported_at own x.period ≡ Some x.first

pub record KnowsFirstTotals (name : List ℕ) (form : Form) (rows : List KeptTotal) (t : Tables)
    : Type 0 where
  pub by_period : EachToLater IsTotalBefore rows
  pub all : (s : State) → StandsFor t s → IsSound s → (x : KeptTotal)
      → Has rows x ↔ IsFirstTotal form (entries_of s name) x

-- the total of the account is told as it is in force, and as it was first reported
abbrev pub IsInForce : List ℕ → Tables → KeptTotal → KeptTotal → Type 0
IsInForce name t total x =
    (cents : Cents) × (x ≡ record total { cents = cents })
    × KnowsFigure name total.period (Some cents) t

-- they are all totals of the account on the form, in each sound state for which the tables stand
pub record KnowsTotals (name : List ℕ) (form : Form) (rows : List KeptTotal) (t : Tables)
    : Type 0 where
  pub by_period : EachToLater IsTotalBefore rows
  pub all : (s : State) → StandsFor t s → IsSound s → (x : KeptTotal)
      → Has rows x ↔ IsTotal form (entries_of s name) x

-- ---- holidays

-- the day, whether it was added, and whether it is a holiday by these changes
abbrev pub told_holiday : List HolidayChange → Bool → ℕ → KeptHoliday
told_holiday changes added day = record {
  day = day;
  added = added;
  is_holiday = is_kept changes day;
}

-- the days that were given, then those that were added
abbrev pub told_days : List HolidayChange → List ℕ → List ℕ → List KeptHoliday
told_days changes given added =
    map (told_holiday changes false) given ++ map (told_holiday changes true) added

-- they are the days that the year's calendar was given with, then all days that were added to it,
-- rising, each with whether it is a holiday, in each sound state for which the tables stand
pub record KnowsHolidays (year : ℕ) (given : List ℕ) (rows : List KeptHoliday) (t : Tables)
    : Type 0 where
  pub added : List ℕ
  pub rising : EachToLater IsDayBefore added
  pub all : (s : State) → StandsFor t s → (day : ℕ) → Has added day ↔ IsAdded s year day
  pub told : (s : State) → StandsFor t s → IsSound s → calendar_at s year ≡ Some given
      → rows ≡ kept_days s given added

-- ---- runs

abbrev pub kept_run : NumberedRun → KeptRun
kept_run row = record { number = row.number; run = row.run.value; voided = row.run.voided }

abbrev pub is_run_before : KeptRun → KeptRun → Bool
is_run_before a b =
    nat_lt a.run.payday b.run.payday
    || ((a.run.payday == b.run.payday) && nat_lt a.number b.number)

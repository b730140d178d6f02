-- A repair as contracts see it, and what is so of each, whatever the histories are.
use Rattle.ftd_rules.specs.declared.Form.{Form}
use Rattle.std.specs.Prelude.{◌≡◌, ℕ, ◌+◌, ◌-◌, ◌<◌, ◌≤◌, List, [], ◌∷◌, Option, None, Some, IfSome}
use Rattle.std.specs.List.{All}
use Rattle.ftd_days.specs.Calendar.{year_start, month_of, month_start}
use Rattle.ftd_rules.specs.declared.YearLine.{YearLine}
use Rattle.ftd_rules.specs.declared.DaySum.{DaySum}
use Rattle.ftd_rules.specs.declared.Kind.TheVariants as kind
use Rattle.ftd_rules.specs.declared.Obligation.{Obligation}
use Rattle.ftd_rules.specs.Years.{AreOpenYears, year_last}
use Rattle.ftd_rules.specs.Periods.{IsPeriod}
use Rattle.ftd_rules.specs.Liability.{SumsRise}
use Rattle.ftd_rules.specs.Private.Walk.{period_first}
use Rattle.ftd_buckets.specs.declared.Window.{Window}
use Rattle.ftd_days.specs.Holidays.{holidays_of}
use Rattle.ftd_buckets.specs.declared.state.Progress.{Progress}
use Rattle.ftd_buckets.specs.declared.state.Stage.{Stage}
use Rattle.ftd_buckets.specs.declared.state.Stage.TheVariants as stage
use Rattle.ftd_buckets.specs.Histories.{TurnsWithin}

-- the window is a whole deposit period of the year, and nothing is settled
abbrev pub ReadyPeriod : Form → YearLine → Window → List DaySum → Type 0
ReadyPeriod form line asked held = IsPeriod form line asked.from asked.to × (held ≡ [])

-- the first day of the deposit period of a day, where the year has this turn, or none up to the day
abbrev pub open_from : Form → Option ℕ → ℕ → ℕ
open_from form None day = month_start (month_of day)
open_from form (Some turn) day = period_first form (turn + 1) day

-- the window is the rest of the year; the sums held are those of its open deposit period from the
-- first day on
pub record ReadyRest (form : Form) (line : YearLine) (asked : Window) (held : List DaySum)
    (first : ℕ) (turn : Option ℕ) : Type 0 where
  pub monthly : line.opening ≡ kind.Monthly
  pub from : year_start line.year < asked.from
  pub some : asked.from ≤ asked.to
  pub to : asked.to ≡ year_last line.year
  pub within : IfSome turn (λ t. (year_start line.year ≤ t) × (t < asked.from))
  pub is_first : first ≡ open_from form turn (asked.from - 1)
  pub rise : SumsRise first (asked.from - 1) held

-- the window is the whole year
abbrev pub ReadyYear : YearLine → Window → List DaySum → Type 0
ReadyYear line asked held = (asked.from ≡ year_start line.year) × (asked.to ≡ year_last line.year)

abbrev pub ReadyAt : Form → YearLine → Window → List DaySum → Stage → Type 0
ReadyAt form line asked held stage.Period = ReadyPeriod form line asked held
ReadyAt form line asked held (stage.Rest first turn) = ReadyRest form line asked held first turn
ReadyAt form line asked held (stage.Year turned) = ReadyYear line asked held

-- a repair under way, as contracts see it
pub record Repairing : Type 0 where
  pub form : Form
  -- the lines before the change, from the year that is being read on
  pub lines : List YearLine
  pub holidays : List ℕ
  -- the first day of the first window
  pub from : ℕ
  -- the window that is asked for
  pub asked : Window
  -- the obligations after the change that begin from there to the days that are held, and the lines
  -- that differ
  pub rows : List Obligation
  pub years : List YearLine
  -- the sums of the days that were fed and are not settled
  pub held : List DaySum
  pub stage : Stage

abbrev pub repairing : Progress → Stage → Repairing
repairing s stage = record {
  form = s.form;
  lines = s.lines.now;
  holidays = holidays_of s.holidays.now;
  from = s.from;
  asked = s.asked;
  rows = s.rows.items;
  years = s.years.items;
  held = s.held.items;
  stage = stage;
}

-- the lines are of years without a gap, each turn in its year and beside a monthly opening, the
-- first that which is being read
pub record IsReady (r : Repairing) : Type 0 where
  pub line : YearLine
  pub later : List YearLine
  pub lines_are : r.lines ≡ line ∷ later
  pub years : AreOpenYears r.lines
  pub turns : All TurnsWithin r.lines
  pub at : ReadyAt r.form line r.asked r.held r.stage

-- How a repair stands to the histories before and after a change.
use Rattle.ftd_rules.specs.declared.Form.{Form}
use Rattle.std.specs.Prelude.{◌≡◌, ℕ, ◌+◌, ◌<◌, ◌≤◌, ◌↔◌, Bool, IsTrue, List, [], ◌∷◌, Option, Some}
use Rattle.std.specs.Prelude.{MatchOption, IfSome, ⊤}
use Rattle.std.specs.List.{sum_by}
use Rattle.ftd_days.specs.Calendar.{year_start}
use Rattle.ftd_rules.specs.Liability.{cents_of}
use Rattle.ftd_rules.specs.declared.YearLine.{YearLine}
use Rattle.ftd_rules.specs.declared.Obligation.{Obligation}
use Rattle.ftd_rules.specs.Lists.{Has}
use Rattle.ftd_rules.specs.Years.{year_last, TurnedBefore}
use Rattle.ftd_buckets.specs.declared.Window.{Window}
use Rattle.ftd_buckets.specs.declared.Patch.{Patch}
use Rattle.ftd_buckets.specs.declared.state.Stage.{Stage}
use Rattle.ftd_buckets.specs.declared.state.Stage.TheVariants as stage
use Rattle.ftd_buckets.specs.declared.state.Next.{Next}
use Rattle.ftd_buckets.specs.declared.state.Next.TheVariants.{Done, Need}
use Rattle.ftd_buckets.specs.Histories.{History, IsChange, AreLast}
use Rattle.ftd_buckets.specs.Windows.{IsPeriodOf, IsDayPeriod, IsYearOf}
use Rattle.ftd_buckets.specs.Ready.{Repairing}
use Rattle.ftd_buckets.specs.Patches.{AreSumsOf, IsOwed, AreRows, ByYear}

-- the repair answers `Done`, with a patch of which this holds
abbrev pub IfDone : Next → (Patch → Type 0) → Type 0
IfDone (Done patch) P = P patch
IfDone (Need repair window) P = ⊤

-- or it asks for a further window
abbrev pub IfNeed : Next → (Repairing → Window → Type 0) → Type 0
IfNeed (Done patch) P = ⊤
IfNeed (Need repair window) P = P repair window

-- the lines of years before `year` that differ
pub record AreChangedBefore (before after : History) (year : ℕ)
    (lines : List YearLine) : Type 0 where
  pub by_year : ByYear lines
  pub all : (line : YearLine)
      → Has lines line ↔ (Has after.lines line × (Has before.lines line → ⊥) × (line.year < year))

-- what is known whatever is asked: the year that is being read, with its lines before and after,
-- that nothing before the first window changes, and which earlier lines differ
pub record StandsIn (form : Form) (day : ℕ) (holidays : List ℕ) (before after : History)
    (lines : List YearLine) (from : ℕ) (years : List YearLine) (old new : YearLine) : Type 0 where
  pub change : IsChange day before after
  pub later : List YearLine
  pub lines_are : lines ≡ old ∷ later
  pub last : AreLast before lines
  pub year : IsYearOf before after old new
  pub period : Window
  pub is_period : IsDayPeriod form day before period
  pub begins : from ≡ period.from
  pub earlier : (o : Obligation) → o.first < from
      → IsOwed form before holidays o ↔ IsOwed form after holidays o
  pub changed : AreChangedBefore before after old.year years

-- the first window is asked for
pub record AtPeriod (form : Form) (day : ℕ) (s : Repairing) (old : YearLine) : Type 0 where
  pub of_day : (year_start old.year ≤ day) × (day ≤ year_last old.year)
  pub asked : IsPeriodOf form old day s.asked
  pub from : s.from ≡ s.asked.from
  pub rows : s.rows ≡ []

-- the rest of the day's year is asked for, whose turn differs. The open deposit period is that of
-- the last day fed, after the change; the rows are those that begin before its first day.
pub record AtRest (form : Form) (day : ℕ) (holidays : List ℕ) (after : History) (s : Repairing)
    (old new : YearLine) (first : ℕ) (turn : Option ℕ) : Type 0 where
  pub of_day : (year_start old.year ≤ day) × (day ≤ year_last old.year)
  pub period : Window
  pub is_period : IsPeriodOf form old day period
  pub from : s.asked.from ≡ period.to + 1
  pub to : s.asked.to ≡ year_last old.year
  pub some : s.asked.from ≤ s.asked.to
  pub differs : old.turn ≡ new.turn → ⊥
  pub last : ℕ
  pub is_open : IsPeriodOf form new period.to (record { from = first; to = last })
  pub reached : s.from ≤ first
  pub is_turn : MatchOption turn (IfSome new.turn (λ turn. period.to < turn))
      (λ turn. new.turn ≡ Some turn)
  pub sums : AreSumsOf after (record { from = first; to = period.to }) s.held
  pub rows : AreRows form after holidays s.from first s.rows

-- a later year is asked for, whose opening differs
pub record AtYear (form : Form) (day : ℕ) (holidays : List ℕ) (after : History) (s : Repairing)
    (old new : YearLine) (turned : Bool) : Type 0 where
  pub later : day < year_start old.year
  pub from : s.asked.from ≡ year_start old.year
  pub to : s.asked.to ≡ year_last old.year
  pub differs : old.opening ≡ new.opening → ⊥
  pub turned_if : IsTrue turned → TurnedBefore after.lines old.year
  pub if_turned : TurnedBefore after.lines old.year → IsTrue turned
  pub rows : AreRows form after holidays s.from s.asked.from s.rows

abbrev pub StandsAt : Form → ℕ → List ℕ → History → Repairing → YearLine → YearLine → Stage → Type 0
StandsAt form day holidays after s old new stage.Period = AtPeriod form day s old
StandsAt form day holidays after s old new (stage.Rest first turn) =
    AtRest form day holidays after s old new first turn
StandsAt form day holidays after s old new (stage.Year turned) =
    AtYear form day holidays after s old new turned

-- the repair of a change has been fed the sums of the history after it, window by window
pub record Stands (form : Form) (day : ℕ) (holidays : List ℕ) (before after : History)
    (r : Repairing) : Type 0 where
  pub old : YearLine
  pub new : YearLine
  pub common : StandsIn form day holidays before after r.lines r.from r.years old new
  pub at : StandsAt form day holidays after r old new r.stage
  pub calendar : r.holidays ≡ holidays

-- the amount of the day sums that a repair still holds
abbrev pub amount_held : Repairing → ℕ
amount_held r = sum_by cents_of r.held

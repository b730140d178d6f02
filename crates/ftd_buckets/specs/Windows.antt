-- Which days have to be read again after the runs of one day have changed.
use Rattle.ftd_rules.specs.declared.Form.{Form}
use Rattle.std.specs.Prelude.{◌≡◌, ℕ, ◌+◌, ◌<◌, ◌≤◌, ◌⊎◌}
use Rattle.ftd_days.specs.Calendar.{year_start}
use Rattle.ftd_rules.specs.declared.YearLine.{YearLine}
use Rattle.ftd_rules.specs.Lists.{Has}
use Rattle.ftd_rules.specs.Years.{year_last}
use Rattle.ftd_rules.specs.Periods.{IsPeriod}
use Rattle.ftd_buckets.specs.declared.Window.{Window}
use Rattle.ftd_buckets.specs.Histories.{History}

-- the window is the day's deposit period in the year of the line
abbrev pub IsPeriodOf : Form → YearLine → ℕ → Window → Type 0
IsPeriodOf form line day w = IsPeriod form line w.from w.to × (w.from ≤ day) × (day ≤ w.to)

-- the day's deposit period before the change
abbrev pub IsDayPeriod : Form → ℕ → History → Window → Type 0
IsDayPeriod form day before w =
    (line : YearLine) × Has before.lines line × IsPeriodOf form line day w

-- the lines of one year, before the change and after it
pub record IsYearOf (before after : History) (old new : YearLine) : Type 0 where
  pub is_old : Has before.lines old
  pub is_new : Has after.lines new
  pub same : old.year ≡ new.year

-- no year's turn differs: it is the same before and after, or there is none in both
abbrev pub NoTurnDiffers : History → History → Type 0
NoTurnDiffers before after =
    (old new : YearLine) → IsYearOf before after old new → old.turn ≡ new.turn

-- the rest of the day's year after that period, where there is one and the year's turn differs
pub record IsRestOfYear (form : Form) (day : ℕ) (before after : History) (w : Window) : Type 0 where
  pub period : Window
  pub is_period : IsDayPeriod form day before period
  pub old : YearLine
  pub new : YearLine
  pub year : IsYearOf before after old new
  pub of_day : (year_start old.year ≤ day) × (day ≤ year_last old.year)
  pub differs : old.turn ≡ new.turn → ⊥
  pub from : w.from ≡ period.to + 1
  pub to : w.to ≡ year_last old.year
  pub some : w.from ≤ w.to

-- a later year that opens otherwise than before
pub record IsLaterYear (day : ℕ) (before after : History) (w : Window) : Type 0 where
  pub old : YearLine
  pub new : YearLine
  pub year : IsYearOf before after old new
  pub later : day < year_start old.year
  pub differs : old.opening ≡ new.opening → ⊥
  pub from : w.from ≡ year_start old.year
  pub to : w.to ≡ year_last old.year

-- the windows whose day sums are needed: the day's deposit period before the change, the rest of
-- its year where the year's turn differs, and each later year whose opening differs
abbrev pub IsNeeded : Form → ℕ → History → History → Window → Type 0
IsNeeded form day before after w =
    IsDayPeriod form day before w
    ⊎ (IsRestOfYear form day before after w ⊎ IsLaterYear day before after w)

-- of the windows needed, the next one after that which was fed
pub record IsNext (form : Form) (day : ℕ) (before after : History)
    (fed next : Window) : Type 0 where
  pub needed : IsNeeded form day before after next
  pub later : fed.to < next.from
  pub least : (w : Window) → IsNeeded form day before after w → fed.to < w.from → next.from ≤ w.from

-- none of the windows needed begins after that which was fed
abbrev pub NoneAfter : Form → ℕ → History → History → Window → Type 0
NoneAfter form day before after fed =
    (w : Window) → IsNeeded form day before after w → w.from ≤ fed.to

-- the window that was fed is the last one needed
pub record IsLastNeeded (form : Form) (day : ℕ) (before after : History)
    (fed : Window) : Type 0 where
  pub needed : IsNeeded form day before after fed
  pub none_after : NoneAfter form day before after fed

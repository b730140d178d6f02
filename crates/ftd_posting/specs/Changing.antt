-- What the rows tell of a day before it is changed.
use Rattle.std.specs.Prelude.{◌≡◌, ℕ, Bool, List, length}
use Rattle.ftd_days.specs.Calendar.{year_of}
use Rattle.ftd_sql.specs.Standing.{Tables}
use Rattle.ftd_store.specs.Finds.{FindsCalendar, ListsAdded}
use Rattle.ftd_machine.specs.State.{State, changes_of}
use Rattle.ftd_entries.specs.Standing.{StandsFor}
use Rattle.ftd_posting.specs.declared.changing.KnownForChange.{KnownForChange}

-- the changes of the day say this, the first one first, in each state for which the tables stand
abbrev pub KnowsWords : ℕ → List Bool → Tables → Type 0
KnowsWords day words t = (s : State) → StandsFor t s → words ≡ changes_of day s.changed_days

-- the calendar of its year, the days added to it, what the day's changes say, and how many there
-- are
pub record KnowsForChange (day : ℕ) (before : KnownForChange) (t : Tables) : Type 0 where
  pub calendar : FindsCalendar (year_of day) before.calendar t
  pub added : ListsAdded (year_of day) before.added t
  pub words : KnowsWords day before.words.items t
  pub count : before.count ≡ length before.words.items

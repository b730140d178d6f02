-- The holidays that were read of some years, in the machine's words.
use Rattle.std.specs.Prelude.{◌≡◌, ◌≤◌, ◌+◌, ℕ, List}
use Rattle.ftd_days.specs.Business.{is_holiday}
use Rattle.ftd_days.specs.Calendar.{year_of}
use Rattle.ftd_sql.specs.Standing.{Tables}
use Rattle.ftd_machine.specs.State.{State, holidays}
use Rattle.ftd_machine.specs.Sound.{IsSound}
use Rattle.ftd_entries.specs.Standing.{KeepsDays}

-- of the days of the year of this day, of the year before and of the year after, those are holidays
-- that each state keeps so of which the tables have the calendars, the added days and the changes
abbrev pub KnowsHolidays : ℕ → List ℕ → Tables → Type 0
KnowsHolidays about read t = (s : State) → KeepsDays t s → IsSound s → (day : ℕ)
    → year_of about ≤ year_of day + 1 → year_of day ≤ year_of about + 1
    → is_holiday read day ≡ is_holiday (holidays s) day

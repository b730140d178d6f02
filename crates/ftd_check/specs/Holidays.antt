-- The holidays in force, of all years.
use Rattle.std.specs.Prelude.{◌≡◌, ◌≤◌, ℕ, List}
use Rattle.ftd_days.specs.Business.{is_holiday}
use Rattle.ftd_days.specs.Calendar.{year_of}
use Rattle.ftd_days.specs.declared.limits.TheConstants.{FIRST_YEAR, LAST_YEAR}
use Rattle.ftd_sql.specs.Standing.{Tables}
use Rattle.ftd_machine.specs.State.{State, holidays}
use Rattle.ftd_machine.specs.Sound.{IsSound}
use Rattle.ftd_entries.specs.Standing.{KeepsDays}

-- of the days of all years, those are holidays that each sound state keeps so of which the tables
-- have the calendars, the added days and the changes
abbrev pub KnowsAll : List ℕ → Tables → Type 0
KnowsAll read t = (s : State) → KeepsDays t s → IsSound s → (day : ℕ)
    → FIRST_YEAR ≤ year_of day → year_of day ≤ LAST_YEAR
    → is_holiday read day ≡ is_holiday (holidays s) day

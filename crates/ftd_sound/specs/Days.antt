-- The days that are kept, as the machine keeps them.
use Rattle.std.specs.Prelude.{ℕ, List, map}
use Rattle.ftd_days.specs.Holidays.{YearDays}
use Rattle.ftd_machine.specs.State.{State, nothing}
use Rattle.ftd_machine.specs.State as state
use Rattle.ftd_sound.specs.declared.days.Calendar.{Calendar}
use Rattle.ftd_sound.specs.declared.days.DayChange.{DayChange}

abbrev pub calendar_in : Calendar → YearDays
calendar_in c = record { year = c.year; days = c.days.items }

abbrev pub change_in : DayChange → state.DayChange
change_in c = record { day = c.day; is_holiday = c.is_holiday }

-- a state with these calendars, added holidays and changes of days, and nothing else
abbrev pub with_days : List Calendar → List ℕ → List DayChange → State
with_days calendars added changes = record nothing {
  calendars = map calendar_in calendars;
  added_days = added;
  changed_days = map change_in changes;
}

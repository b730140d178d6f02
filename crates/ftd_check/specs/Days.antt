-- The days that tables keep.
use Rattle.std.specs.Prelude.{ℕ, List, map, Option, None, Some}
use Rattle.ftd_days.specs.Holidays.{YearDays}
use Rattle.ftd_sql.specs.Rows.{CalendarYearRow, HolidayRow, ChangedHolidayRow}
use Rattle.ftd_sql.specs.Standing.{Tables}
use Rattle.ftd_sql.specs.declared.TableName.TheVariants.{CalendarYears, Holidays, AddedHolidays}
use Rattle.ftd_sql.specs.declared.TableName.TheVariants.{ChangedHolidays}
use Rattle.ftd_machine.specs.State.{State, DayChange, nothing}
use Rattle.ftd_entries.specs.Standing.{AreDays}
use Rattle.ftd_sound.specs.Days.{calendar_in, change_in}
use Rattle.ftd_sound.specs.Parts.{AreDaysSound}
use Rattle.ftd_check.specs.declared.days.KeptDays.{KeptDays}

-- a state with these calendars, added holidays and changes of days, and nothing else
abbrev pub days_only : List YearDays → List ℕ → List DayChange → State
days_only given added changes = record nothing {
  calendars = given;
  added_days = added;
  changed_days = changes;
}

-- the rows are those of these calendars, added holidays and changes of days, which are sound
pub record AreSoundDays (years : List CalendarYearRow) (days more : List HolidayRow)
    (changed : List ChangedHolidayRow) (given : List YearDays) (added : List ℕ)
    (changes : List DayChange) : Type 0 where
  pub rows : AreDays years days more changed given added changes
  pub sound : AreDaysSound (days_only given added changes)

-- the sound days whose rows these are, or None, where they are the rows of no sound days
abbrev pub AreKept : List CalendarYearRow → List HolidayRow → List HolidayRow
    → List ChangedHolidayRow → Option KeptDays → Type 0
AreKept years days more changed None =
    (given : List YearDays) (added : List ℕ) (changes : List DayChange)
    → ¬ AreSoundDays years days more changed given added changes
AreKept years days more changed (Some kept) =
    AreSoundDays years days more changed (map calendar_in kept.calendars.items) kept.added.items
    (map change_in kept.changes.items)

-- what was read of the days that the tables keep
abbrev pub ReadsDays : Option KeptDays → Tables → Type 0
ReadsDays kept t =
    AreKept (t CalendarYears) (t Holidays) (t AddedHolidays) (t ChangedHolidays) kept

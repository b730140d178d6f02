use Rattle.std.proofs.Common.{length, map}
use Rattle.ftd_store.specs.Added.{year_holiday_row}
use Rattle.ftd_store.specs.Rows.{holiday_row}
use Rattle.ftd_entries.specs.Standing.{holiday_entries}
use Rattle.ftd_sound.specs.Days.{calendar_in}
use Rattle.ftd_check.proofs.Beginnings.{Begin}
use Rattle.ftd_check.proofs.calendars.after_calendar.Given as goal

-- what is left begins with the days that are left, just as all rows do with all days
abbrev pub invariant-loop-day : goal.invariant-loop-day
invariant-loop-day l =
    Begin (map year_holiday_row l.holidays) (holiday_entries (calendar_in l.calendar))
    (map year_holiday_row l.left) (map (holiday_row l.calendar.year) l.days)

abbrev pub decreases-loop-day : goal.decreases-loop-day
decreases-loop-day l = length l.days

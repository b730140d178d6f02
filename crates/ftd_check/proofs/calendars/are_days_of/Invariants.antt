use Rattle.std.proofs.Common.{◌≡◌, length, map}
use Rattle.std.specs.Prelude.{flat_map}
use Rattle.ftd_store.specs.Added.{year_holiday_row}
use Rattle.ftd_entries.specs.Standing.{holiday_entries}
use Rattle.ftd_sound.specs.Days.{calendar_in}
use Rattle.ftd_check.proofs.Beginnings.{DecidedBy}
use Rattle.ftd_check.proofs.calendars.are_days_of.Given as goal

-- what is left decides
abbrev pub invariant-loop-calendar : goal.invariant-loop-calendar
invariant-loop-calendar l =
    DecidedBy (map year_holiday_row l.holidays
    ≡ flat_map holiday_entries (map calendar_in l.calendars))
    (map year_holiday_row l.rows ≡ flat_map holiday_entries (map calendar_in l.left))

abbrev pub decreases-loop-calendar : goal.decreases-loop-calendar
decreases-loop-calendar l = length l.left

use Rattle.std.proofs.Common.{◌≡◌, map, take}
use Rattle.ftd_sound.specs.Days.{calendar_in}
use Rattle.ftd_check.specs.Private.DayRows.{calendar_shown}
use Rattle.ftd_check.proofs.calendars.calendars_shown.Given as goal

abbrev pub invariant-loop-year : goal.invariant-loop-year
invariant-loop-year l =
    map calendar_in l.calendars.items ≡ map (calendar_shown l.holidays) (take l.year-index l.years)

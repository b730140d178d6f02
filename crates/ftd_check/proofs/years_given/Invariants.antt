use Rattle.std.proofs.Common.{◌≡◌, map, take}
use Rattle.ftd_machine.specs.Sound.{year_of_calendar}
use Rattle.ftd_sound.specs.Days.{calendar_in}
use Rattle.ftd_check.proofs.years_given.Given as goal

abbrev pub invariant-loop-calendar : goal.invariant-loop-calendar
invariant-loop-calendar l =
    l.years.items
    ≡ map year_of_calendar (map calendar_in (take l.calendar-index l.calendars))

use Rattle.std.proofs.Common.{◌≡◌, map, take}
use Rattle.ftd_days.specs.Holidays.{holidays_of}
use Rattle.ftd_sound.specs.Days.{calendar_in}
use Rattle.ftd_sound.proofs.days.all_days.Given as goal

abbrev pub invariant-loop-calendar : goal.invariant-loop-calendar
invariant-loop-calendar l =
    l.all.items ≡ holidays_of (map calendar_in (take l.calendar-index l.calendars))

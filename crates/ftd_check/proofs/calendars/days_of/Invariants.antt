use Rattle.std.proofs.Common.{◌≡◌, map, take}
use Rattle.ftd_check.specs.Private.DayRows.{day_shown}
use Rattle.ftd_check.proofs.calendars.days_of.Given as goal

abbrev pub invariant-loop-holiday : goal.invariant-loop-holiday
invariant-loop-holiday l = l.days.items ≡ map day_shown (take l.holiday-index l.holidays)

use Rattle.std.proofs.Common.{◌≡◌, take}
use Rattle.ftd_check.specs.Private.DayRows.{days_shown}
use Rattle.ftd_check.proofs.calendars.days_shown.Given as goal

abbrev pub invariant-loop-holiday : goal.invariant-loop-holiday
invariant-loop-holiday l = l.days.items ≡ days_shown l.year (take l.holiday-index l.holidays)

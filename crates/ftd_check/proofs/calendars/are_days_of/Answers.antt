use Rattle.std.proofs.Common.{◌≡◌, map}
use Rattle.ftd_store.specs.Added.{year_holiday_row}
use Rattle.ftd_check.proofs.Beginnings.{decided_rest, rows_in}
use Rattle.ftd_check.proofs.calendars.are_days_of.Goals as goal

pub loop-calendar-preserved : goal.loop-calendar-preserved
loop-calendar-preserved c =
    decided_rest (map year_holiday_row c.args.holidays.now ≡ rows_in c.args.calendars.now)
    (map year_holiday_row c.loop-calendar.rows.now) c.loop-calendar.left.now
    c.in-Some.calendar.now c.in-Some.later.now c.in-Some.ensures.cases.0 c.loop-calendar.invariant
    (map year_holiday_row c.in-Some-after_calendar.rest.now) c.in-Some-after_calendar.ensures.cases

use Rattle.std.proofs.Common.{◌∙◌, ap, arith}
use Rattle.ftd_days.specs.Calendar.{month_start}
use Rattle.ftd_posting.proofs.Booking.{first_of_year}
use Rattle.ftd_posting.proofs.books.days_from.Goals as goal

pub returns-clause-of_year : goal.returns-clause-of_year
returns-clause-of_year c =
    let low = c.if-year-lt-FIRST_CALENDAR_YEAR.false in
    let high = c.if-year-gt-LAST_CALENDAR_YEAR.false in
    first_of_year c.args.year c.first_of_month-from.result (omega arith) (omega arith)
    (c.first_of_month-from.ensures.value ∙ ap month_start (omega arith))

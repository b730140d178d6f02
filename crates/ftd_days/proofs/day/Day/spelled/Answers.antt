use Rattle.std.proofs.Common.{arith}
use Rattle.ftd_days.specs.Calendar.{year_of, month_in_year, day_of_month}
use Rattle.ftd_days.proofs.Months.{date_bounds}
use Rattle.ftd_days.proofs.Spelled.{same_date}
use Rattle.ftd_days.proofs.day.Day.spelled.Goals as goal

pub returns-in_err-year-clause-only : goal.returns-in_err-year-clause-only
returns-in_err-year-clause-only c = λ day spelled.
    let bounds = date_bounds day spelled.within in
    let none = c.in_err-year.ensures.only (year_of day) (month_in_year day) (day_of_month day)
    (omega arith) (omega arith) (omega arith) spelled.spelled in
    absurd cc

pub returns-clause-only : goal.returns-clause-only
returns-clause-only c = λ day spelled.
    let bounds = date_bounds day spelled.within in
    let same = same_date c.in_ok-year.year c.in_ok-year.month c.in_ok-year.day (year_of day)
    (month_in_year day) (day_of_month day) (c.in_ok-year.ensures.only (year_of day)
    (month_in_year day) (day_of_month day) (omega arith) (omega arith)
    (omega arith) spelled.spelled) in
    c.on_date.ensures.only day (record {
      within = spelled.within;
      year_is = same.0;
      month_is = same.1;
      day_is = same.2;
    })

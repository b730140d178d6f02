use Rattle.std.proofs.Common.{◌≡◌, ◌+◌, ap, arith}
use Rattle.ftd_days.specs.Calendar.{month_of, month_start}
use Rattle.ftd_days.proofs.Intervals.{close_only}
use Rattle.ftd_days.proofs.Known.{early_due}
use Rattle.ftd_days.proofs.Months.{early_year}
use Rattle.ftd_kept.proofs.explaining.first_counted.Goals as goal

pub plus-requires : goal.plus-requires
plus-requires c =
    let early = (early_due c.args.obligation.now.last c.requires).0 in
    let value = c.first_of_month.ensures.value in
    let month = c.month_number.ensures.value in
    let same : month_start (c.month_number.result + 1)
    ≡ month_start (month_of c.args.obligation.now.last + 1) = ap (λ m. month_start (m + 1)) month in
    omega arith

pub interval_close-requires : goal.interval_close-requires
interval_close-requires c =
    let early = early_year c.args.obligation.now.last (let h = c.requires in omega arith) in
    omega arith

pub tomorrow-requires : goal.tomorrow-requires
tomorrow-requires c =
    let close = close_only c.args.obligation.now.last c.interval_close.result
    c.interval_close.ensures in
    let early = (early_due c.args.obligation.now.last c.requires).1 in
    omega arith

pub tomorrow-requires-in-NextDay : goal.tomorrow-requires-in-NextDay
tomorrow-requires-in-NextDay c =
    let early = early_year c.args.obligation.now.last (let h = c.requires in omega arith) in
    omega arith

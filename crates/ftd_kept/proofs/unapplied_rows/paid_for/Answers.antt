use Rattle.std.proofs.Common.{◌≡◌, arith}
use Rattle.ftd_days.specs.Calendar.{last_day}
use Rattle.ftd_days.proofs.Months.{month_start-end}
use Rattle.ftd_kept.proofs.unapplied_rows.paid_for.Goals as goal

pub returns : goal.returns
returns c =
    let is : c.last_of_month-end.result ≡ last_day =
    (let a = c.last_of_month-end.ensures.value in let b = month_start-end in omega arith) in
    rw is at c.paid_by.ensures

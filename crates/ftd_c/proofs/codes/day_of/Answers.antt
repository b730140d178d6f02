use Rattle.std.proofs.Common.{◌≡◌, arith}
use Rattle.ftd_days.specs.Calendar.{month_start}
use Rattle.ftd_c.proofs.codes.day_of.Goals as goal

pub plus-requires : goal.plus-requires
unfolding month_start
plus-requires c =
    let first : c.first_of_month.result ≡ 0 = c.first_of_month.ensures.value in omega arith

pub returns : goal.returns
unfolding month_start
returns c =
    let first : c.first_of_month.result ≡ 0 = c.first_of_month.ensures.value in
    let sum = c.plus.ensures in
    omega arith

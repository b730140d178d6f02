use Rattle.std.proofs.Common.{arith, refl}
use Rattle.ftd_rules.proofs.ReturnDates.{fifteenth_early}
use Rattle.ftd_rules.proofs.due.fifteenth_after.Goals as goal

pub plus-requires : goal.plus-requires
plus-requires c =
    let early = rw (← c.month_number.ensures.value) at (fifteenth_early c.args.day c.requires) in
    omega arith

pub returns-clause-value : goal.returns-clause-value
returns-clause-value c = rw (
  c.plus.ensures,
  c.first_of_month.ensures.value,
  c.month_number.ensures.value,
) refl

pub returns-clause-bound : goal.returns-clause-bound
returns-clause-bound c =
    let early = rw (← c.month_number.ensures.value) at (fifteenth_early c.args.day c.requires) in
    omega arith

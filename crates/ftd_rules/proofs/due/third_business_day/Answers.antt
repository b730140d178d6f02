use Rattle.std.proofs.Common.{arith}
use Rattle.ftd_days.proofs.Months.{known_year}
use Rattle.ftd_rules.proofs.due.third_business_day.Goals as goal

pub nth_after-requires-clause-day : goal.nth_after-requires-clause-day
nth_after-requires-clause-day c = let known = known_year c.args.close (let early = c.requires in
    omega arith) in omega arith

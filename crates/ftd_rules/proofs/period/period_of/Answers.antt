use Rattle.std.proofs.Common.{arith, ◌≡◌, ap, ◌∙◌}
use Rattle.std.proofs.lemmas.Bool.{lt-ltb, le-ltb}
use Rattle.std.proofs.lemmas.Bool.Decides.{nat_tests}
use Rattle.std.proofs.lemmas.Grind.{common_steps}
use Rattle.ftd_days.proofs.Intervals.{start_only, close_only}
use Rattle.ftd_days.specs.Calendar.{month_start}
use Rattle.ftd_rules.specs.Private.Walk.{period_first, period_last}
use Rattle.ftd_rules.proofs.Shared.{shared_is}
use Rattle.ftd_rules.proofs.period.period_of.Goals as goal

first_monthly : (c : goal.After-min) → c.first_of_month.result ≡ period_first c.args.form
    c.args.semiweekly_from c.args.day
first_monthly c =
    rw (lt-ltb c.args.day c.args.semiweekly_from
    (grind (arith, nat_tests, c.if-lt.true, c.lt.ensures)))
    (c.first_of_month.ensures.value
    ∙ ap month_start c.month_number-month.ensures.value)

last_monthly : (c : goal.After-min) → c.min.result ≡ period_last c.args.form c.args.semiweekly_from
    c.args.day
last_monthly c =
    rw (lt-ltb c.args.day c.args.semiweekly_from
    (grind (arith, nat_tests, c.if-lt.true, c.lt.ensures)))
    (grind (
      arith,
      common_steps,
      c.last_of_month.ensures.value,
      c.month_number-month.ensures.value,
      c.yesterday.ensures,
      c.min.ensures,
    ))

pub returns-else-lt-clause-first : goal.returns-else-lt-clause-first
returns-else-lt-clause-first c =
    let start = start_only c.args.day c.interval_start.result c.requires.early
    c.interval_start.ensures in
    rw (le-ltb c.args.day c.args.semiweekly_from
    (grind (arith, nat_tests, c.if-lt.false, c.lt.ensures)))
    (grind (
      arith,
      common_steps,
      start,
      c.return_period-first.ensures.first,
      c.max.ensures,
      c.max-else-lt.ensures,
    ))

pub returns-else-lt-clause-last : goal.returns-else-lt-clause-last
returns-else-lt-clause-last c =
    let close = close_only c.args.day c.interval_close.result c.interval_close.ensures in
    rw (le-ltb c.args.day c.args.semiweekly_from
    (grind (arith, nat_tests, c.if-lt.false, c.lt.ensures)))
    (grind (arith, common_steps, close, c.return_period-first.ensures.last, c.min-else-lt.ensures))

pub returns-then-lt-clause-shared : goal.returns-then-lt-clause-shared
returns-then-lt-clause-shared c = λ line other open_year is here there.
    rw (first_monthly c, last_monthly c)
    (shared_is c.args.form line c.args.semiweekly_from c.args.day other open_year is here there)

pub returns-else-lt-clause-shared : goal.returns-else-lt-clause-shared
returns-else-lt-clause-shared c = λ line other open_year is here there.
    let first : c.max-else-lt.result ≡ period_first c.args.form c.args.semiweekly_from c.args.day =
    returns-else-lt-clause-first c in
    let last : c.min-else-lt.result ≡ period_last c.args.form c.args.semiweekly_from c.args.day =
    returns-else-lt-clause-last c in
    rw (first, last) (shared_is c.args.form line c.args.semiweekly_from c.args.day other open_year
    is here there)

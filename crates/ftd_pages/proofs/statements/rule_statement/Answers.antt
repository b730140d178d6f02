use Rattle.ftd_pages.specs.Statements.{monthly_rule, next_day_rule, semiweekly_rule}
use Rattle.ftd_pages.proofs.statements.rule_statement.Goals as goal

pub returns-in-Monthly : goal.returns-in-Monthly
unfolding monthly_rule
returns-in-Monthly c = rw c.in-Monthly.is

pub returns-in-Semiweekly : goal.returns-in-Semiweekly
unfolding semiweekly_rule
returns-in-Semiweekly c = rw c.in-Semiweekly.is

pub returns-in-NextDay : goal.returns-in-NextDay
unfolding next_day_rule
returns-in-NextDay c = rw c.in-NextDay.is

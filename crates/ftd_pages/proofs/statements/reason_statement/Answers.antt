use Rattle.ftd_pages.specs.Statements.{carried_rule, turned_rule}
use Rattle.ftd_pages.proofs.statements.reason_statement.Goals as goal

pub returns-in-Lookback : goal.returns-in-Lookback
returns-in-Lookback c = rw c.in-Lookback.is c.lookback_statement.ensures

pub returns-in-Turned : goal.returns-in-Turned
unfolding turned_rule
returns-in-Turned c = rw c.in-Turned.is

pub returns-in-Carried : goal.returns-in-Carried
unfolding carried_rule
returns-in-Carried c = rw c.in-Carried.is

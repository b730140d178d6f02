use Rattle.ftd_pages.specs.Statements.{high_lookback, low_lookback}
use Rattle.ftd_pages.proofs.statements.lookback_statement.Goals as goal

pub returns-in-Monthly : goal.returns-in-Monthly
unfolding low_lookback
returns-in-Monthly c = rw c.in-Monthly.is

pub returns-in-Semiweekly : goal.returns-in-Semiweekly
unfolding high_lookback
returns-in-Semiweekly c = rw c.in-Semiweekly.is

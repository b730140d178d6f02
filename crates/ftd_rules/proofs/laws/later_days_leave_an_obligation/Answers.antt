use Rattle.ftd_rules.proofs.Later.{obligation_later}
use Rattle.ftd_rules.proofs.laws.later_days_leave_an_obligation.Goals as goal

pub returns : goal.returns
returns c = obligation_later

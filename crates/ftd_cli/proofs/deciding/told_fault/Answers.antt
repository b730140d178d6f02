use Rattle.ftd_cli.proofs.TaskFacts.{usage_shows}
use Rattle.ftd_cli.proofs.deciding.told_fault.Goals as goal

pub returns-in-BadWord-Field-Form-clause-value : goal.returns-in-BadWord-Field-Form-clause-value
returns-in-BadWord-Field-Form-clause-value c = usage_shows _ _ c.usage.ensures

pub returns-in-NoCommand-clause-value : goal.returns-in-NoCommand-clause-value
returns-in-NoCommand-clause-value c = usage_shows _ _ c.usage-in-NoCommand.ensures

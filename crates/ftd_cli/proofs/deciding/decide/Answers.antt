use Rattle.std.proofs.Common.{ap, ◌∙◌}
use Rattle.ftd_cli.specs.Tasks.{by_value}
use Rattle.ftd_cli.proofs.TaskFacts.{parsed_task, refused_shows, refused_task, value_told}
use Rattle.ftd_cli.proofs.deciding.decide.Goals as goal

pub returns-in-Ok-task_in-clause-asked : goal.returns-in-Ok-task_in-clause-asked
returns-in-Ok-task_in-clause-asked c = parsed_task _ _ _ c.in-Ok.ensures.0 c.in-Ok.ensures.1
    ∙ ap by_value c.in-Ok-task_in.ensures

pub returns-in-Ok-clause-asked : goal.returns-in-Ok-clause-asked
returns-in-Ok-clause-asked c = rw (parsed_task _ _ _ c.in-Ok.ensures.0 c.in-Ok.ensures.1)
    (value_told c.in-Err.fault _ _ c.in-Err.ensures c.told_fault.ensures.told)

pub returns-in-Ok-clause-value : goal.returns-in-Ok-clause-value
returns-in-Ok-clause-value c = rw c.in-Ok.ensures.1 at c.told_fault.ensures.value

pub returns-clause-asked : goal.returns-clause-asked
returns-clause-asked c =
    let among = rw c.in-Err-Refused.field-0-is at c.in-Err-Refused.ensures in
    let told = rw c.in-Err-Refused.field-0-is at c.told_error.ensures in
    refused_task _ _ _ _ among (told _ among)

pub returns-clause-value : goal.returns-clause-value
returns-clause-value c =
    let among = rw c.in-Err-Refused.field-0-is at c.in-Err-Refused.ensures in
    let told = rw c.in-Err-Refused.field-0-is at c.told_error.ensures in
    refused_shows _ _ _ (told _ among)

use Rattle.ftd_questions.proofs.NextDays.{of_941, of_943}
use Rattle.ftd_questions.proofs.walking.quarters_of_return.Goals as goal

pub returns-in-F941-clause-same : goal.returns-in-F941-clause-same
returns-in-F941-clause-same c = λ day. rw (c.in-F941.is, c.quarters-quarters.ensures.value)
    (of_941 c.args.quarter day c.requires)

pub returns-in-F943-clause-same : goal.returns-in-F943-clause-same
returns-in-F943-clause-same c = λ day. rw (c.in-F943.is, c.quarters-quarters.ensures.value)
    (of_943 c.args.quarter day c.requires)

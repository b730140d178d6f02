use Rattle.std.proofs.Common.{take}
use Rattle.std.specs.Prelude.{filter}
use Rattle.ftd_store.specs.Lists.{Pairs}
use Rattle.ftd_questions.specs.DueRows.{IsRowBy, begins_in}
use Rattle.ftd_questions.proofs.due_rows.due_rows.Given as goal

abbrev pub invariant-loop-obligation : goal.invariant-loop-obligation
invariant-loop-obligation l = Pairs (IsRowBy l.of_return l.as_of)
    (filter (begins_in l.quarter) (take l.obligation-index l.obligations)) l.rows.items

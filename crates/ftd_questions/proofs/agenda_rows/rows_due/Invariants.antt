use Rattle.std.proofs.Common.{Ok, take}
use Rattle.ftd_store.specs.Frame.{Reads}
use Rattle.ftd_questions.proofs.AgendaRows.{SoFar}
use Rattle.ftd_questions.proofs.agenda_rows.rows_due.Given as goal

abbrev pub invariant-loop-owed : goal.invariant-loop-owed
invariant-loop-owed g l =
    Reads g.S.Store l.fn.tx l.tx (Ok (tt {0})) (λ done. SoFar l.fn.unpaid l.fn.from l.fn.to
    l.fn.as_of l.owed-items (take l.owed-index l.owed-items) l.rows.items l.last)

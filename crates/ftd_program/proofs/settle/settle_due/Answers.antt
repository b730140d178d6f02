use Rattle.std.proofs.Common.{sym}
use Rattle.ftd_program.specs.Settling.{read, unread}
use Rattle.ftd_program.proofs.settle.settle_due.Goals as goal

pub returns-in-Some : goal.returns-in-Some
returns-in-Some g c =
    read c.handle-answer.new.self c.handle-answer.result c.in-Some.rows.now
    (rw c.due_question-question.ensures at c.handle-answer.ensures.handles)
    (sym c.in-Some.ensures) c.settle_rows.ensures

pub returns : goal.returns
returns g c =
    unread c.handle-answer.result (sym c.in-None.ensures)
    (rw c.due_question-question.ensures
    at (c.print_answer.ensures c.args.desk.now c.handle-answer.ensures.handles))

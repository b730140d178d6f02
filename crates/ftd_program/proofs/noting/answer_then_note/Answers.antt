use Rattle.ftd_program.proofs.noting.answer_then_note.Goals as goal

pub returns : goal.returns
returns g c = record {
  answer = c.handle-answer.result;
  between = c.print_answer-performed.new.desk;
  first = c.print_answer-performed.result;
  performs = c.print_answer-performed.ensures c.args.desk.now c.handle-answer.ensures.handles;
  notes = rw c.asked_then-question.ensures at c.note_if_printed.ensures;
}

use Rattle.ftd_program.proofs.performing.answer.Goals as goal

pub returns : goal.returns
returns g c = (
  c.handle-answer.result,
  c.print_answer.ensures c.args.desk.now c.handle-answer.ensures.handles,
)

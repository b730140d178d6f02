use Rattle.std.proofs.Common.{refl}
use Rattle.ftd_shell.proofs.shell.Shell.answer_next.Goals as goal

pub returns-clause-answers : goal.returns-clause-answers
returns-clause-answers g c = λ piece is. (
  c.answer_understood-end.result,
  c.answer_understood-end.ensures.answers piece is,
  rw c.greater.ensures refl,
)

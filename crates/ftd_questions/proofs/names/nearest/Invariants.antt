use Rattle.ftd_questions.specs.Nearest.{texts_of}
use Rattle.ftd_questions.proofs.Passed.{Passed}
use Rattle.ftd_questions.proofs.names.nearest.Given as goal

abbrev pub invariant-loop-place : goal.invariant-loop-place
invariant-loop-place l = Passed l.typed (texts_of l.names) l.fewest l.found l.place

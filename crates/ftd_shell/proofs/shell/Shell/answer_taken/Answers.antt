use Rattle.std.proofs.Common.{refl}
use Rattle.ftd_shell.specs.ListedLines.{waited, went_on}
use Rattle.ftd_shell.proofs.shell.Shell.answer_taken.Goals as goal

pub returns-then-waits-clause-answers : goal.returns-then-waits-clause-answers
returns-then-waits-clause-answers g c = waited (c.waits.ensures c.if-waits.true) refl refl refl

pub returns-clause-answers : goal.returns-clause-answers
returns-clause-answers g c = went_on c.answer_after.ensures.answers

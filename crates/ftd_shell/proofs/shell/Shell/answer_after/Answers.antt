use Rattle.std.proofs.Common.{◌∙◌, sym}
use Rattle.ftd_shell.specs.ListedLines.{answered, ended}
use Rattle.ftd_shell.proofs.shell.Shell.answer_after.Goals as goal

pub returns-then-is_last-clause-answers : goal.returns-then-is_last-clause-answers
returns-then-is_last-clause-answers g c =
    ended c.answer_listed-end.ensures.answers (sym c.is_last.ensures ∙ c.if-is_last.true)

pub returns-clause-answers : goal.returns-clause-answers
returns-clause-answers g c =
    answered c.answer_listed-end.result c.answer_listed-end.new.self.desk
    c.answer_listed-end.ensures.answers (sym c.is_last.ensures ∙ c.if-is_last.false)
    c.clear.ensures.lines c.clear.ensures.requests
    (rw c.answer_listed-end.ensures.stays at c.answer_alone.ensures.answers)

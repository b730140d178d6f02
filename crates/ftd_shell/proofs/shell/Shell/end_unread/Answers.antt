use Rattle.std.proofs.Common.{◌∙◌, refl, sym}
use Rattle.ftd_shell.proofs.shell.Shell.end_unread.Goals as goal

pub returns-then-is_last-clause-ends : goal.returns-then-is_last-clause-ends
returns-then-is_last-clause-ends g c = record {
  end = c.answer_listed-end.result;
  answers = c.answer_listed-end.ensures.answers;
  ends = rw (sym c.is_last.ensures ∙ c.if-is_last.true) refl;
}

pub returns-else-is_last-clause-ends : goal.returns-else-is_last-clause-ends
returns-else-is_last-clause-ends g c = record {
  end = c.answer_listed-end.result;
  answers = c.answer_listed-end.ensures.answers;
  ends = rw (sym c.is_last.ensures ∙ c.if-is_last.false) (record {
    status_is = c.end_unread.ensures.status_is;
    out_is = c.end_unread.ensures.out_is;
    line = c.end_unread.ensures.line;
  });
}

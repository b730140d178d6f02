use Rattle.std.proofs.Common.{refl}
use Rattle.ftd_shell.proofs.shell.Shell.answer_asked.Goals as goal

pub returns-in-Ok-Some-clause-answers : goal.returns-in-Ok-Some-clause-answers
returns-in-Ok-Some-clause-answers g c =
    rw (c.in-Ok-Some.is, c.in-Ok-Some.field-0-is) c.answer_job.ensures.does

pub returns-in-Ok-None-clause-answers : goal.returns-in-Ok-None-clause-answers
returns-in-Ok-None-clause-answers g c = rw (c.in-Ok-None.is, c.in-Ok-None.field-0-is) (
  refl,
  record {
    status_is = c.print_line.ensures.status;
    out_is = c.print_line.ensures.out;
    line = c.print_line.ensures.line;
  },
)

use Rattle.std.proofs.Common.{refl}
use Rattle.ftd_files.proofs.opening.close_copy.Goals as goal

pub returns : goal.returns
returns c = record {
  holds = λ s keeps. (c.in_ok-close_desk.ensures.keeps refl s keeps).without_log;
  honest = (c.in_ok-close_desk.ensures.honest refl).0;
  is_open = (c.in_ok-close_desk.ensures.honest refl).1;
}

use Rattle.std.proofs.Common.{refl}
use Rattle.ftd_shell.proofs.shell.Shell.tell_next.Goals as goal

pub returns : goal.returns
returns g c = λ number entered listed is. (
  c.tell_line-end.result,
  c.tell_line-end.ensures number entered listed is,
  rw c.greater.ensures refl,
)

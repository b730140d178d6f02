use Rattle.ftd_machine.proofs.Own.{follows}
use Rattle.ftd_machine.proofs.Alike.{alike}
use Rattle.ftd_machine.proofs.laws.replies_rest_on_own_rows.Goals as goal

pub returns : goal.returns
returns c = record { each = follows; equal = alike }

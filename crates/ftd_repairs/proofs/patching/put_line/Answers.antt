use Rattle.std.proofs.Common.{refl}
use Rattle.ftd_repairs.proofs.patching.put_line.Goals as goal

pub returns-clause-line : goal.returns-clause-line
returns-clause-line g c = refl

use Rattle.std.proofs.Common.{refl}
use Rattle.ftd_entries.proofs.lookbacks.total_of_quarters.Goals as goal

pub returns-in-Err : goal.returns-in-Err
returns-in-Err c = (c.in-Err.missing.0, c.in-Err.ensures.missing, refl)

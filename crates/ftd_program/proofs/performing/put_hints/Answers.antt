use Rattle.ftd_program.specs.Performing.{part}
use Rattle.ftd_program.proofs.performing.put_hints.Goals as goal

pub returns-in-Err-Memory : goal.returns-in-Err-Memory
returns-in-Err-Memory g c = part _ c.in-Err-Memory.ensures.err c.put.ensures

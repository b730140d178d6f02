use Rattle.ftd_program.specs.Checking.{found, unread}
use Rattle.ftd_program.proofs.checking.check.Goals as goal

pub returns-in-Ok : goal.returns-in-Ok
returns-in-Ok g c =
    found c.in-Ok.found c.in-Ok.ensures.knows c.check.ensures.stands c.print_soundness.ensures

pub returns-in-Err : goal.returns-in-Err
returns-in-Err g c =
    unread c.in-Err.refusal c.in-Err.ensures.fault c.check.ensures.stands c.print_refusal.ensures

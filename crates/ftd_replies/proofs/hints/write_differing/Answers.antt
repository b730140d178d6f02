use Rattle.ftd_ports.proofs.WritingFacts.{then_writes, stops_in}
use Rattle.ftd_replies.proofs.hints.write_differing.Goals as goal

pub returns-in_err-write_new : goal.returns-in_err-write_new
returns-in_err-write_new g c =
    stops_in _ c.from_residual.ensures.0 (rw c.first_beside.ensures at c.in_err-write_new.ensures)

pub returns : goal.returns
returns g c =
    then_writes (rw c.first_beside.ensures at c.in_ok-write_new.ensures)
    (rw c.first_beside-2.ensures at c.write_left_out.ensures)

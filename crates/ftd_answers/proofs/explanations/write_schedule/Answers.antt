use Rattle.ftd_ports.proofs.WritingFacts.{then_writes}
use Rattle.ftd_answers.specs.Explanations.{status_text}
use Rattle.ftd_answers.proofs.explanations.write_schedule.Goals as goal

pub returns : goal.returns
unfolding status_text
returns g c =
    then_writes c.in_ok-write_reason.ensures (rw c.turn_of.ensures at c.write_reached.ensures)

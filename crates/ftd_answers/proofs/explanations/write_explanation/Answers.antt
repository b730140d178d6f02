use Rattle.ftd_ports.proofs.WritingFacts.{then_writes}
use Rattle.ftd_answers.specs.Explanations.{explanation_told}
use Rattle.ftd_answers.proofs.explanations.write_explanation.Goals as goal

pub returns : goal.returns
unfolding explanation_told
returns g c = then_writes c.in_ok-write_head.ensures c.write_found.ensures

use Rattle.ftd_ports.proofs.WritingFacts.{then_writes}
use Rattle.ftd_answers.proofs.explanation_objects.write_object_member.Goals as goal

pub returns : goal.returns
returns g c = then_writes c.in_ok-write_all.ensures c.write_object.ensures

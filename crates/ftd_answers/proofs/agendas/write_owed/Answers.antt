use Rattle.ftd_ports.proofs.WritingFacts.{then_writes}
use Rattle.ftd_answers.specs.Agendas.{owed_text}
use Rattle.ftd_answers.proofs.agendas.write_owed.Goals as goal

pub returns : goal.returns
unfolding owed_text
returns g c = then_writes c.in_ok-write_owed_head.ensures c.write_lines.ensures

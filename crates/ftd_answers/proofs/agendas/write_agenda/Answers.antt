use Rattle.ftd_ports.proofs.WritingFacts.{then_writes}
use Rattle.ftd_answers.specs.Agendas.{agenda_text}
use Rattle.ftd_answers.proofs.agendas.write_agenda.Goals as goal

pub returns : goal.returns
unfolding agenda_text
returns g c = then_writes c.in_ok-write_agenda_head.ensures c.write_lines.ensures

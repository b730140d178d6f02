use Rattle.ftd_ports.proofs.WritingFacts.{then_writes}
use Rattle.ftd_program.specs.Summaries.{note_text}
use Rattle.ftd_program.proofs.summaries.write_note.Goals as goal

pub returns : goal.returns
unfolding note_text
returns g c = then_writes c.in_ok-write_record.ensures c.write_finding.ensures

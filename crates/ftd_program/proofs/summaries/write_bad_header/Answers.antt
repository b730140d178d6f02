use Rattle.ftd_ports.proofs.WritingFacts.{then_writes}
use Rattle.ftd_program.specs.Summaries.{bad_header_text}
use Rattle.ftd_program.proofs.summaries.write_bad_header.Goals as goal

pub returns : goal.returns
unfolding bad_header_text
returns g c = then_writes c.in_ok-write_all.ensures c.write_header_hint.ensures

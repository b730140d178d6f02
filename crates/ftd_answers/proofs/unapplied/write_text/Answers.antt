use Rattle.ftd_ports.proofs.WritingFacts.{then_writes}
use Rattle.ftd_answers.specs.Unapplied.{unapplied_text}
use Rattle.ftd_answers.proofs.unapplied.write_text.Goals as goal

pub returns : goal.returns
unfolding unapplied_text
returns g c = then_writes c.in_ok-write_head.ensures c.write_rows.ensures

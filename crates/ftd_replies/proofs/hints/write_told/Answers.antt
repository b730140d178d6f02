use Rattle.ftd_ports.proofs.WritingFacts.{then_writes}
use Rattle.ftd_replies.specs.Hints.{told_text}
use Rattle.ftd_replies.proofs.hints.write_told.Goals as goal

pub returns : goal.returns
unfolding told_text
returns g c = then_writes c.in_ok-write_refusal.ensures c.write_hints.ensures

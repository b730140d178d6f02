use Rattle.ftd_ports.proofs.WritingFacts.{then_writes}
use Rattle.ftd_replies.proofs.hints.write_meant.Goals as goal

pub returns : goal.returns
returns g c = then_writes c.in_ok-write_meant_line.ensures c.write_hint.ensures

use Rattle.ftd_ports.proofs.WritingFacts.{then_writes}
use Rattle.ftd_answers.specs.Listings.{kept_text}
use Rattle.ftd_answers.proofs.listings.write_kept.Goals as goal

pub returns : goal.returns
unfolding kept_text
returns g c = then_writes c.in_ok-write_head.ensures c.write_lines.ensures

use Rattle.ftd_ports.proofs.WritingFacts.{stops_in, then_writes}
use Rattle.ftd_site.proofs.account_pages.Sections.write_section.Goals as goal

pub returns-in_err-write_facts_at : goal.returns-in_err-write_facts_at
returns-in_err-write_facts_at g c =
    stops_in _ c.from_residual.ensures.0 c.in_err-write_facts_at.ensures

pub returns : goal.returns
returns g c = then_writes c.in_ok-write_facts_at.ensures c.write_ways_below.ensures

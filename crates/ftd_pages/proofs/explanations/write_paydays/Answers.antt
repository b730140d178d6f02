use Rattle.ftd_ports.proofs.WritingFacts.{then_writes, stops_in}
use Rattle.ftd_pages.specs.Explanations.{paydays_part}
use Rattle.ftd_pages.specs.Statements.{payday_rule}
use Rattle.ftd_pages.proofs.explanations.write_paydays.Goals as goal

pub returns-in_err-write_section : goal.returns-in_err-write_section
unfolding paydays_part payday_rule
returns-in_err-write_section g c = stops_in _ c.from_residual.ensures.0 c.in_err-write_section.ensures

pub returns : goal.returns
unfolding paydays_part payday_rule
returns g c = then_writes c.in_ok-write_section.ensures c.write_statement.ensures

use Rattle.ftd_ports.proofs.WritingFacts.{then_writes, stops_in}
use Rattle.ftd_site.proofs.controls.write_answers.Goals as goal

pub returns-in_err-write_option : goal.returns-in_err-write_option
returns-in_err-write_option g c = stops_in _ c.from_residual.ensures.0 c.in_err-write_option.ensures

pub returns-in_err-write_option-2 : goal.returns-in_err-write_option-2
returns-in_err-write_option-2 g c = then_writes c.in_ok-write_option.ensures (stops_in _ c.from_residual-in_err-write_option-2.ensures.0 c.in_err-write_option-2.ensures)

pub returns : goal.returns
returns g c = then_writes c.in_ok-write_option.ensures (then_writes c.in_ok-write_option-2.ensures c.write_option-3.ensures)

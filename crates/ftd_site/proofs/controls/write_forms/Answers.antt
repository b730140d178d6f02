use Rattle.ftd_ports.proofs.WritingFacts.{then_writes, stops_in}
use Rattle.ftd_site.proofs.controls.write_forms.Goals as goal

pub returns-in_err-write_option : goal.returns-in_err-write_option
returns-in_err-write_option g c = stops_in _ c.from_residual.ensures.0 c.in_err-write_option.ensures

pub returns : goal.returns
returns g c = then_writes c.in_ok-write_option.ensures c.write_option-2.ensures

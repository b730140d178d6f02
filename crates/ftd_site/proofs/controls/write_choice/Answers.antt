use Rattle.ftd_ports.proofs.WritingFacts.{then_writes, stops_in}
use Rattle.ftd_site.specs.Controls.{choice}
use Rattle.ftd_site.proofs.controls.write_choice.Goals as goal

pub returns-in_err-write_all : goal.returns-in_err-write_all
unfolding choice
returns-in_err-write_all g c = stops_in _ c.from_residual.ensures.0 c.in_err-write_all.ensures

pub returns-in_err-write_attributes : goal.returns-in_err-write_attributes
unfolding choice
returns-in_err-write_attributes g c = then_writes c.in_ok-write_all.ensures (stops_in _ c.from_residual-in_err-write_attributes.ensures.0 c.in_err-write_attributes.ensures)

pub returns-in_err-write_all-2 : goal.returns-in_err-write_all-2
unfolding choice
returns-in_err-write_all-2 g c = then_writes c.in_ok-write_all.ensures (then_writes c.in_ok-write_attributes.ensures (stops_in _ c.from_residual-in_err-write_all-2.ensures.0 c.in_err-write_all-2.ensures))

pub returns-in_err-write_options : goal.returns-in_err-write_options
unfolding choice
returns-in_err-write_options g c = then_writes c.in_ok-write_all.ensures (then_writes c.in_ok-write_attributes.ensures (then_writes c.in_ok-write_all-2.ensures (stops_in _ c.from_residual-in_err-write_options.ensures.0 c.in_err-write_options.ensures)))

pub returns : goal.returns
unfolding choice
returns g c = then_writes c.in_ok-write_all.ensures (then_writes c.in_ok-write_attributes.ensures (then_writes c.in_ok-write_all-2.ensures (then_writes c.in_ok-write_options.ensures c.write_all-3.ensures)))

use Rattle.ftd_ports.proofs.WritingFacts.{then_writes, stops_in}
use Rattle.ftd_site.specs.Controls.{typed}
use Rattle.ftd_site.proofs.controls.write_typed.Goals as goal

pub returns-in_err-write_typed_start : goal.returns-in_err-write_typed_start
unfolding typed
returns-in_err-write_typed_start g c = stops_in _ c.from_residual.ensures.0 c.in_err-write_typed_start.ensures

pub returns-in_err-write_attributes : goal.returns-in_err-write_attributes
unfolding typed
returns-in_err-write_attributes g c = then_writes c.in_ok-write_typed_start.ensures (stops_in _ c.from_residual-in_err-write_attributes.ensures.0 c.in_err-write_attributes.ensures)

pub returns-in_err-write_all : goal.returns-in_err-write_all
unfolding typed
returns-in_err-write_all g c = then_writes c.in_ok-write_typed_start.ensures (then_writes c.in_ok-write_attributes.ensures (stops_in _ c.from_residual-in_err-write_all.ensures.0 c.in_err-write_all.ensures))

pub returns-in_err-write_escaped : goal.returns-in_err-write_escaped
unfolding typed
returns-in_err-write_escaped g c = then_writes c.in_ok-write_typed_start.ensures (then_writes c.in_ok-write_attributes.ensures (then_writes c.in_ok-write_all.ensures (stops_in _ c.from_residual-in_err-write_escaped.ensures.0 c.in_err-write_escaped.ensures.writes)))

pub returns : goal.returns
unfolding typed
returns g c = then_writes c.in_ok-write_typed_start.ensures (then_writes c.in_ok-write_attributes.ensures (then_writes c.in_ok-write_all.ensures (then_writes c.in_ok-write_escaped.ensures.writes c.write_all-2.ensures)))

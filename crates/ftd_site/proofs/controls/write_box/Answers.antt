use Rattle.ftd_ports.proofs.WritingFacts.{then_writes, stops_in}
use Rattle.ftd_site.specs.Controls.{box}
use Rattle.ftd_site.proofs.controls.write_box.Goals as goal

pub returns-in_err-write_all : goal.returns-in_err-write_all
unfolding box
returns-in_err-write_all g c = stops_in _ c.from_residual.ensures.0 c.in_err-write_all.ensures

pub returns-in_err-write_attributes : goal.returns-in_err-write_attributes
unfolding box
returns-in_err-write_attributes g c = then_writes c.in_ok-write_all.ensures (stops_in _ c.from_residual-in_err-write_attributes.ensures.0 c.in_err-write_attributes.ensures)

pub returns : goal.returns
unfolding box
returns g c = then_writes c.in_ok-write_all.ensures (then_writes c.in_ok-write_attributes.ensures c.write_box_end.ensures)

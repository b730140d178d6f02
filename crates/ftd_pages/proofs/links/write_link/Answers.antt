use Rattle.ftd_ports.proofs.WritingFacts.{then_writes, stops_in}
use Rattle.ftd_pages.specs.Links.{link}
use Rattle.ftd_pages.proofs.links.write_link.Goals as goal

pub returns-in_err-write_all : goal.returns-in_err-write_all
unfolding link
returns-in_err-write_all g c = stops_in _ c.from_residual.ensures.0 c.in_err-write_all.ensures

pub returns-in_err-write_rows : goal.returns-in_err-write_rows
unfolding link
returns-in_err-write_rows g c = then_writes c.in_ok-write_all.ensures (stops_in _ c.from_residual-in_err-write_rows.ensures.0 c.in_err-write_rows.ensures)

pub returns-in_err-write_all-2 : goal.returns-in_err-write_all-2
unfolding link
returns-in_err-write_all-2 g c = then_writes c.in_ok-write_all.ensures (then_writes c.in_ok-write_rows.ensures (stops_in _ c.from_residual-in_err-write_all-2.ensures.0 c.in_err-write_all-2.ensures))

pub returns-in_err-write_shown : goal.returns-in_err-write_shown
unfolding link
returns-in_err-write_shown g c = then_writes c.in_ok-write_all.ensures (then_writes c.in_ok-write_rows.ensures (then_writes c.in_ok-write_all-2.ensures (stops_in _ c.from_residual-in_err-write_shown.ensures.0 c.in_err-write_shown.ensures)))

pub returns : goal.returns
unfolding link
returns g c = then_writes c.in_ok-write_all.ensures (then_writes c.in_ok-write_rows.ensures (then_writes c.in_ok-write_all-2.ensures (then_writes c.in_ok-write_shown.ensures c.write_all-3.ensures)))

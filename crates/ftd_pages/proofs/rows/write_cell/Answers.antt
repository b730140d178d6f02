use Rattle.ftd_ports.proofs.WritingFacts.{then_writes, stops_in}
use Rattle.ftd_pages.specs.Rows.{cell}
use Rattle.ftd_pages.proofs.rows.write_cell.Goals as goal

pub returns-in_err-write_cell_start : goal.returns-in_err-write_cell_start
unfolding cell
returns-in_err-write_cell_start g c = stops_in _ c.from_residual.ensures.0 c.in_err-write_cell_start.ensures

pub returns-in_err-write_linked : goal.returns-in_err-write_linked
unfolding cell
returns-in_err-write_linked g c = then_writes c.in_ok-write_cell_start.ensures (stops_in _ c.from_residual-in_err-write_linked.ensures.0 c.in_err-write_linked.ensures)

pub returns : goal.returns
unfolding cell
returns g c = then_writes c.in_ok-write_cell_start.ensures (then_writes c.in_ok-write_linked.ensures c.write_all.ensures)

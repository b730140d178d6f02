use Rattle.ftd_ports.proofs.WritingFacts.{then_writes, stops_in}
use Rattle.ftd_pages.proofs.feet.write_left_sum.Goals as goal

pub returns-in_err-write_all : goal.returns-in_err-write_all
returns-in_err-write_all g c = stops_in _ c.from_residual.ensures.0 c.in_err-write_all.ensures

pub returns-in_err-write_cell : goal.returns-in_err-write_cell
returns-in_err-write_cell g c =
    then_writes c.in_ok-write_all.ensures (stops_in _
    c.from_residual-in_err-write_cell.ensures.0 c.in_err-write_cell.ensures)

pub returns : goal.returns
returns g c =
    then_writes c.in_ok-write_all.ensures (then_writes c.in_ok-write_cell.ensures
    c.write_all-2.ensures)

use Rattle.ftd_ports.proofs.WritingFacts.{then_writes, stops_in}
use Rattle.ftd_pages.proofs.rows.write_verdict_start.Goals as goal

pub returns-in_err-write_all : goal.returns-in_err-write_all
returns-in_err-write_all g c = stops_in _ c.from_residual.ensures.0 c.in_err-write_all.ensures

pub returns-in_err-write_plain : goal.returns-in_err-write_plain
returns-in_err-write_plain g c =
    then_writes c.in_ok-write_all.ensures (stops_in _
    c.from_residual-in_err-write_plain.ensures.0 c.in_err-write_plain.ensures)

pub returns : goal.returns
returns g c =
    then_writes c.in_ok-write_all.ensures (then_writes c.in_ok-write_plain.ensures
    c.write_all-2.ensures)

use Rattle.ftd_ports.proofs.WritingFacts.{then_writes, stops_in}
use Rattle.ftd_pages.specs.Pages.{foot_of}
use Rattle.ftd_pages.proofs.feet.write_left_foot.Goals as goal

pub returns-in_err-write_all : goal.returns-in_err-write_all
unfolding foot_of
returns-in_err-write_all g c = stops_in _ c.from_residual.ensures.0 c.in_err-write_all.ensures

pub returns-in_err-write_left_sum : goal.returns-in_err-write_left_sum
unfolding foot_of
returns-in_err-write_left_sum g c =
    then_writes c.in_ok-write_all.ensures (stops_in _
    c.from_residual-in_err-write_left_sum.ensures.0 c.in_err-write_left_sum.ensures)

pub returns : goal.returns
unfolding foot_of
returns g c =
    then_writes c.in_ok-write_all.ensures (then_writes c.in_ok-write_left_sum.ensures
    c.write_all-2.ensures)

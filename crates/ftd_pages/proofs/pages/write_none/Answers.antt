use Rattle.ftd_ports.proofs.WritingFacts.{then_writes, stops_in}
use Rattle.ftd_pages.specs.Pages.{none_of}
use Rattle.ftd_pages.proofs.pages.write_none.Goals as goal

pub returns-in_err-write_all : goal.returns-in_err-write_all
unfolding none_of
returns-in_err-write_all g c = stops_in _ c.from_residual.ensures.0 c.in_err-write_all.ensures

pub returns-in_err-write_title : goal.returns-in_err-write_title
unfolding none_of
returns-in_err-write_title g c =
    then_writes c.in_ok-write_all.ensures (stops_in _
    c.from_residual-in_err-write_title.ensures.0 c.in_err-write_title.ensures)

pub returns-in_err-write_all-2 : goal.returns-in_err-write_all-2
unfolding none_of
returns-in_err-write_all-2 g c =
    then_writes c.in_ok-write_all.ensures (then_writes c.in_ok-write_title.ensures (stops_in _
    c.from_residual-in_err-write_all-2.ensures.0 c.in_err-write_all-2.ensures))

pub returns-in_err-write_escaped : goal.returns-in_err-write_escaped
unfolding none_of
returns-in_err-write_escaped g c =
    then_writes c.in_ok-write_all.ensures (then_writes c.in_ok-write_title.ensures (then_writes
    c.in_ok-write_all-2.ensures (stops_in _ c.from_residual-in_err-write_escaped.ensures.0
    c.in_err-write_escaped.ensures.writes)))

pub returns : goal.returns
unfolding none_of
returns g c =
    then_writes c.in_ok-write_all.ensures (then_writes c.in_ok-write_title.ensures (then_writes
    c.in_ok-write_all-2.ensures (then_writes c.in_ok-write_escaped.ensures.writes
    c.write_all-3.ensures)))

use Rattle.ftd_ports.proofs.WritingFacts.{then_writes, stops_in}
use Rattle.ftd_pages.specs.Pages.{page_start}
use Rattle.ftd_pages.proofs.pages.write_start.Goals as goal

pub returns-in_err-write_all : goal.returns-in_err-write_all
unfolding page_start
returns-in_err-write_all g c = stops_in _ c.from_residual.ensures.0 c.in_err-write_all.ensures

pub returns-in_err-write_title : goal.returns-in_err-write_title
unfolding page_start
returns-in_err-write_title g c =
    then_writes c.in_ok-write_all.ensures (stops_in _
    c.from_residual-in_err-write_title.ensures.0 c.in_err-write_title.ensures)

pub returns-in_err-write_all-2 : goal.returns-in_err-write_all-2
unfolding page_start
returns-in_err-write_all-2 g c =
    then_writes c.in_ok-write_all.ensures (then_writes c.in_ok-write_title.ensures (stops_in _
    c.from_residual-in_err-write_all-2.ensures.0 c.in_err-write_all-2.ensures))

pub returns-in_err-write_style : goal.returns-in_err-write_style
unfolding page_start
returns-in_err-write_style g c =
    then_writes c.in_ok-write_all.ensures (then_writes c.in_ok-write_title.ensures (then_writes
    c.in_ok-write_all-2.ensures (stops_in _ c.from_residual-in_err-write_style.ensures.0
    c.in_err-write_style.ensures)))

pub returns-in_err-write_all-3 : goal.returns-in_err-write_all-3
unfolding page_start
returns-in_err-write_all-3 g c =
    then_writes c.in_ok-write_all.ensures (then_writes c.in_ok-write_title.ensures (then_writes
    c.in_ok-write_all-2.ensures (then_writes c.in_ok-write_style.ensures (stops_in _
    c.from_residual-in_err-write_all-3.ensures.0 c.in_err-write_all-3.ensures))))

pub returns-in_err-write_ways : goal.returns-in_err-write_ways
unfolding page_start
returns-in_err-write_ways g c =
    then_writes c.in_ok-write_all.ensures (then_writes c.in_ok-write_title.ensures (then_writes
    c.in_ok-write_all-2.ensures (then_writes c.in_ok-write_style.ensures (then_writes
    c.in_ok-write_all-3.ensures (stops_in _ c.from_residual-in_err-write_ways.ensures.0
    c.in_err-write_ways.ensures)))))

pub returns : goal.returns
unfolding page_start
returns g c =
    then_writes c.in_ok-write_all.ensures (then_writes c.in_ok-write_title.ensures (then_writes
    c.in_ok-write_all-2.ensures (then_writes c.in_ok-write_style.ensures (then_writes
    c.in_ok-write_all-3.ensures (then_writes c.in_ok-write_ways.ensures
    c.write_all-4.ensures)))))

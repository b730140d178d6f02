use Rattle.ftd_ports.proofs.WritingFacts.{then_writes, stops_in}
use Rattle.ftd_pages.specs.Pages.{table_of}
use Rattle.ftd_pages.proofs.pages.write_table.Goals as goal

pub returns-in_err-write_all : goal.returns-in_err-write_all
unfolding table_of
returns-in_err-write_all g c = stops_in _ c.from_residual.ensures.0 c.in_err-write_all.ensures

pub returns-in_err-write_title : goal.returns-in_err-write_title
unfolding table_of
returns-in_err-write_title g c =
    then_writes c.in_ok-write_all.ensures (stops_in _
    c.from_residual-in_err-write_title.ensures.0 c.in_err-write_title.ensures)

pub returns-in_err-write_all-2 : goal.returns-in_err-write_all-2
unfolding table_of
returns-in_err-write_all-2 g c =
    then_writes c.in_ok-write_all.ensures (then_writes c.in_ok-write_title.ensures (stops_in _
    c.from_residual-in_err-write_all-2.ensures.0 c.in_err-write_all-2.ensures))

pub returns-in_err-write_part : goal.returns-in_err-write_part
unfolding table_of
returns-in_err-write_part g c =
    then_writes c.in_ok-write_all.ensures (then_writes c.in_ok-write_title.ensures (then_writes
    c.in_ok-write_all-2.ensures (stops_in _ c.from_residual-in_err-write_part.ensures.0
    c.in_err-write_part.ensures)))

pub returns-in_err-write_all-3 : goal.returns-in_err-write_all-3
unfolding table_of
returns-in_err-write_all-3 g c =
    then_writes c.in_ok-write_all.ensures (then_writes c.in_ok-write_title.ensures (then_writes
    c.in_ok-write_all-2.ensures (then_writes c.in_ok-write_part.ensures (stops_in _
    c.from_residual-in_err-write_all-3.ensures.0 c.in_err-write_all-3.ensures))))

pub returns-in_err-write_rows : goal.returns-in_err-write_rows
unfolding table_of
returns-in_err-write_rows g c =
    then_writes c.in_ok-write_all.ensures (then_writes c.in_ok-write_title.ensures (then_writes
    c.in_ok-write_all-2.ensures (then_writes c.in_ok-write_part.ensures (then_writes
    c.in_ok-write_all-3.ensures (stops_in _ c.from_residual-in_err-write_rows.ensures.0
    c.in_err-write_rows.ensures)))))

pub returns-in_err-write_all-4 : goal.returns-in_err-write_all-4
unfolding table_of
returns-in_err-write_all-4 g c =
    then_writes c.in_ok-write_all.ensures (then_writes c.in_ok-write_title.ensures (then_writes
    c.in_ok-write_all-2.ensures (then_writes c.in_ok-write_part.ensures (then_writes
    c.in_ok-write_all-3.ensures (then_writes c.in_ok-write_rows.ensures (stops_in _
    c.from_residual-in_err-write_all-4.ensures.0 c.in_err-write_all-4.ensures))))))

pub returns-in_err-write_foot : goal.returns-in_err-write_foot
unfolding table_of
returns-in_err-write_foot g c =
    then_writes c.in_ok-write_all.ensures (then_writes c.in_ok-write_title.ensures (then_writes
    c.in_ok-write_all-2.ensures (then_writes c.in_ok-write_part.ensures (then_writes
    c.in_ok-write_all-3.ensures (then_writes c.in_ok-write_rows.ensures (then_writes
    c.in_ok-write_all-4.ensures (stops_in _ c.from_residual-in_err-write_foot.ensures.0
    c.in_err-write_foot.ensures)))))))

pub returns : goal.returns
unfolding table_of
returns g c =
    then_writes c.in_ok-write_all.ensures (then_writes c.in_ok-write_title.ensures (then_writes
    c.in_ok-write_all-2.ensures (then_writes c.in_ok-write_part.ensures (then_writes
    c.in_ok-write_all-3.ensures (then_writes c.in_ok-write_rows.ensures (then_writes
    c.in_ok-write_all-4.ensures (then_writes c.in_ok-write_foot.ensures
    c.write_all-5.ensures)))))))

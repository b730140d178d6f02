use Rattle.ftd_ports.proofs.WritingFacts.{then_writes, stops_in}
use Rattle.ftd_answers.specs.Explanations.{explanation_text}
use Rattle.ftd_answers.proofs.explanations.write_explained.Goals as goal

pub returns-in_err-write_obligation : goal.returns-in_err-write_obligation
unfolding explanation_text
returns-in_err-write_obligation g c =
    stops_in _ c.from_residual.ensures.0 c.in_err-write_obligation.ensures

pub returns-in_err-write_schedule : goal.returns-in_err-write_schedule
unfolding explanation_text
returns-in_err-write_schedule g c =
    then_writes c.in_ok-write_obligation.ensures
    (stops_in _ c.from_residual-in_err-write_schedule.ensures.0 c.in_err-write_schedule.ensures)

pub returns-in_err-write_table : goal.returns-in_err-write_table
unfolding explanation_text
returns-in_err-write_table g c =
    let failed = rw c.as_slice.ensures at c.in_err-write_table.ensures in
    then_writes c.in_ok-write_obligation.ensures (then_writes c.in_ok-write_schedule.ensures
    (stops_in _ c.from_residual-in_err-write_table.ensures.0 failed))

pub returns-in_err-write_table-2 : goal.returns-in_err-write_table-2
unfolding explanation_text
returns-in_err-write_table-2 g c =
    let paydays = rw c.as_slice.ensures at c.in_ok-write_table.ensures in
    let failed = rw c.as_slice-2.ensures at c.in_err-write_table-2.ensures in
    then_writes c.in_ok-write_obligation.ensures (then_writes c.in_ok-write_schedule.ensures
    (then_writes paydays (stops_in _ c.from_residual-in_err-write_table-2.ensures.0 failed)))

pub returns-in_err-write_return : goal.returns-in_err-write_return
unfolding explanation_text
returns-in_err-write_return g c =
    let paydays = rw c.as_slice.ensures at c.in_ok-write_table.ensures in
    let days = rw c.as_slice-2.ensures at c.in_ok-write_table-2.ensures in
    then_writes c.in_ok-write_obligation.ensures (then_writes c.in_ok-write_schedule.ensures
    (then_writes paydays (then_writes days (stops_in _
    c.from_residual-in_err-write_return.ensures.0 c.in_err-write_return.ensures))))

pub returns : goal.returns
unfolding explanation_text
returns g c =
    let paydays = rw c.as_slice.ensures at c.in_ok-write_table.ensures in
    let days = rw c.as_slice-2.ensures at c.in_ok-write_table-2.ensures in
    let payments = rw c.as_slice-3.ensures at c.write_table-3.ensures in
    then_writes c.in_ok-write_obligation.ensures (then_writes c.in_ok-write_schedule.ensures
    (then_writes paydays (then_writes days (then_writes c.in_ok-write_return.ensures payments))))

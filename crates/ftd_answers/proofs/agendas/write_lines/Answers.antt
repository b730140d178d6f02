use Rattle.ftd_answers.specs.Agendas.{agenda_line, lines_text}
use Rattle.ftd_ports.proofs.WritingFacts.{begins, goes_on, stops_after, ends_in}
use Rattle.ftd_answers.proofs.LineFacts.{rows_at, lines_end}
use Rattle.ftd_answers.proofs.agendas.write_lines.Goals as goal

pub loop-row-init : goal.loop-row-init
unfolding lines_text
loop-row-init g c = begins

pub returns-in_err-write_row : goal.returns-in_err-write_row
returns-in_err-write_row g c =
    stops_after _ c.from_residual.ensures.0 c.loop-row.invariant
    (rows_at agenda_line c.args.rows.now c.loop-row.row-index c.row-item.result _
    c.loop-row-test.true c.row-item.is) c.in_err-write_row.ensures

pub loop-row-preserved : goal.loop-row-preserved
loop-row-preserved g c =
    goes_on _ _ c.loop-row.invariant
    (rows_at agenda_line c.args.rows.now c.loop-row.row-index c.row-item.result _
    c.loop-row-test.true c.row-item.is) c.in_ok-write_row.ensures.ok

pub returns : goal.returns
returns g c =
    ends_in
    (rw (lines_end agenda_line c.args.rows.now c.loop-row.row-index c.loop-row-test.false _)
    at c.loop-row.invariant)
    (rw c.total.ensures at c.write_total.ensures)

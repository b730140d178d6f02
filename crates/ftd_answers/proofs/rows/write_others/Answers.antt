use Rattle.std.proofs.Common.{◌∷◌}
use Rattle.ftd_ports.proofs.WritingFacts.{begins, goes_on, all_written, stops_after}
use Rattle.ftd_answers.specs.Fields.{comma}
use Rattle.ftd_answers.proofs.RowFormatFacts.{texts_at, texts_end}
use Rattle.ftd_answers.proofs.rows.write_others.Goals as goal

pub loop-row-init : goal.loop-row-init
loop-row-init g c = begins

pub returns-in_err-write_next : goal.returns-in_err-write_next
returns-in_err-write_next g c =
    stops_after _ c.from_residual.ensures.0 c.loop-row.invariant
    (texts_at (λ row. comma ∷ g.F.RowFormat.row_text c.args.format.now row) c.args.rows.now
    c.loop-row.row-index c.row-item.result c.loop-row-test.true c.row-item.is)
    c.in_err-write_next.ensures

pub loop-row-preserved : goal.loop-row-preserved
loop-row-preserved g c =
    goes_on _ _ c.loop-row.invariant
    (texts_at (λ row. comma ∷ g.F.RowFormat.row_text c.args.format.now row) c.args.rows.now
    c.loop-row.row-index c.row-item.result c.loop-row-test.true c.row-item.is)
    c.in_ok-write_next.ensures.ok

pub returns : goal.returns
returns g c =
    all_written (rw (texts_end (λ row. comma ∷ g.F.RowFormat.row_text c.args.format.now row)
    c.args.rows.now c.loop-row.row-index c.loop-row-test.false) at c.loop-row.invariant)

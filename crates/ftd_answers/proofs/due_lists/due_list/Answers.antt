use Rattle.std.proofs.Common.{refl, arith}
use Rattle.ftd_rules.specs.Verdicts.{amount_of}
use Rattle.ftd_answers.specs.DueLists.{due_line, total_line, due_text}
use Rattle.ftd_ports.proofs.WritingFacts.{begins, goes_on, stops_in, stops_after, ends_in}
use Rattle.ftd_answers.proofs.LineFacts.{rows_at, amounts_at, rows_end}
use Rattle.ftd_answers.proofs.due_lists.due_list.Goals as goal

pub returns-in_err-write_head : goal.returns-in_err-write_head
unfolding due_text
returns-in_err-write_head g c = stops_in _ c.from_residual.ensures.0 c.in_err-write_head.ensures

pub loop-row-init : goal.loop-row-init
unfolding due_text
loop-row-init g c = record {
  written = goes_on _ _ begins refl c.in_ok-write_head.ensures.ok;
  total = omega arith;
}

pub returns-in_err-write_row : goal.returns-in_err-write_row
returns-in_err-write_row g c =
    stops_after _ c.from_residual-in_err-write_row.ensures.0 c.loop-row.invariant.written
    (rows_at due_line c.args.rows.now c.loop-row.row-index c.row-item.result _ c.loop-row-test.true
    c.row-item.is) c.in_err-write_row.ensures

pub loop-row-preserved : goal.loop-row-preserved
loop-row-preserved g c = record {
  written = goes_on _ _ c.loop-row.invariant.written
      (rows_at due_line c.args.rows.now c.loop-row.row-index c.row-item.result _
      c.loop-row-test.true c.row-item.is) c.in_ok-write_row.ensures.ok;
  total = let more = amounts_at amount_of c.args.rows.now c.loop-row.row-index c.row-item.result
      c.loop-row-test.true c.row-item.is in let before = c.loop-row.invariant.total in
      omega arith;
}

pub returns : goal.returns
returns g c =
    ends_in
    (rw (← rows_end due_line amount_of total_line c.args.rows.now c.loop-row.row-index
    c.loop-row.total c.loop-row-test.false c.loop-row.invariant.total) c.loop-row.invariant.written)
    c.write_total.ensures

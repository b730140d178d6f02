use Rattle.std.proofs.Common.{◌∙◌, sym, arith}
use Rattle.ftd_answers.specs.SchedulesB.{month_lines}
use Rattle.ftd_ports.proofs.WritingFacts.{begins, goes_on, stops_after, ends_in}
use Rattle.ftd_answers.proofs.MonthFacts.{of_this, of_other, lines_at, sums_at, month_within}
use Rattle.ftd_answers.proofs.MonthFacts.{month_end}
use Rattle.ftd_answers.proofs.liability_by_day.write_month.Goals as goal
use Rattle.ftd_answers.proofs.liability_by_day.write_month.Goals.{then-month_number-month+in_ok-write_day}
use Rattle.ftd_answers.proofs.liability_by_day.write_month.Goals.{else-month_number-month}

pub loop-sum-init : goal.loop-sum-init
unfolding month_lines
loop-sum-init g c = record { written = begins; total = omega arith }

pub returns-in_err-write_day : goal.returns-in_err-write_day
returns-in_err-write_day g c =
    let this = of_this c.args.month c.args.sums.now c.loop-sum.sum-index c.sum-item.result
    c.loop-sum-test.true c.sum-item.is (sym c.month_number.ensures.value
    ∙ c.if-month_number-month.true) in
    stops_after _ c.from_residual.ensures.0 c.loop-sum.invariant.written (lines_at _ _ _ _ this)
    c.in_err-write_day.ensures

pub overflow_add-total : goal.overflow_add-total
overflow_add-total g c =
    let this = of_this c.args.month c.args.sums.now c.loop-sum.sum-index c.sum-item.result
    c.loop-sum-test.true c.sum-item.is (sym c.month_number.ensures.value
    ∙ c.if-month_number-month.true) in
    let more = sums_at _ _ _ this in
    let bound = month_within c.args.month c.args.sums.now in
    let total = c.loop-sum.invariant.total in
    let small = c.requires.amounts in
    omega arith

pub loop-sum-preserved : goal.loop-sum-preserved
loop-sum-preserved g c = elim c.if-month_number-month.branch [
  | then-month_number-month+in_ok-write_day w ↦
      (let this = of_this c.args.month c.args.sums.now c.loop-sum.sum-index c.sum-item.result
      c.loop-sum-test.true c.sum-item.is (sym c.month_number.ensures.value
      ∙ w.if-month_number-month.true) in
      let more = sums_at _ _ _ this in
      let before = c.loop-sum.invariant.total in
      let total = w.total-is in
      rw w.target-is
      (record {
        written = goes_on _ _ c.loop-sum.invariant.written (lines_at _ _ _ _ this)
            w.in_ok-write_day.ensures.ok;
        total = omega arith;
      }))
  | else-month_number-month w ↦
      (let other = of_other c.args.month c.args.sums.now c.loop-sum.sum-index c.sum-item.result
      c.loop-sum-test.true c.sum-item.is
      (λ e. w.if-month_number-month.false (c.month_number.ensures.value ∙ e)) in
      let before = rw other at c.loop-sum.invariant.total in
      let total = w.total-is in
      rw w.target-is (record {
        written = rw other at c.loop-sum.invariant.written;
        total = omega arith;
      }))
]

pub returns : goal.returns
returns g c =
    let rest = month_end c.args.month c.args.sums.now c.loop-sum.sum-index c.loop-sum.total
    c.loop-sum-test.false c.loop-sum.invariant.total in
    ends_in (rw rest at c.loop-sum.invariant.written)
    (rw c.month_bytes.ensures at c.write_line.ensures)

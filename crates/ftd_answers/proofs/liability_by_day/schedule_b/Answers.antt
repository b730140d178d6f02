use Rattle.std.proofs.Common.{refl}
use Rattle.ftd_ports.proofs.WritingFacts.{begins, goes_on, stops_after, ends_in}
use Rattle.ftd_answers.specs.SchedulesB.{b_text}
use Rattle.ftd_answers.proofs.MonthFacts.{months_rest}
use Rattle.ftd_answers.proofs.liability_by_day.schedule_b.Goals as goal

pub returns-in_err-write_month-3 : goal.returns-in_err-write_month-3
unfolding b_text
returns-in_err-write_month-3 g c =
    let head = goes_on _ _ begins refl c.in_ok-write_head.ensures.ok in
    let first = goes_on _ _ head (months_rest c.args.sums.now c.args.quarter _)
    (rw c.quarters-first.ensures.value at c.in_ok-write_month.ensures.ok) in
    let second = goes_on _ _ first refl
    (rw c.quarters-first.ensures.value at c.in_ok-write_month-2.ensures.ok) in
    stops_after _ c.from_residual-in_err-write_month-3.ensures.0 second refl
    (rw c.quarters-first.ensures.value at c.in_err-write_month-3.ensures)

pub returns : goal.returns
unfolding b_text
returns g c =
    let head = goes_on _ _ begins refl c.in_ok-write_head.ensures.ok in
    let first = goes_on _ _ head (months_rest c.args.sums.now c.args.quarter _)
    (rw c.quarters-first.ensures.value at c.in_ok-write_month.ensures.ok) in
    let second = goes_on _ _ first refl
    (rw c.quarters-first.ensures.value at c.in_ok-write_month-2.ensures.ok) in
    let third = goes_on _ _ second refl
    (rw c.quarters-first.ensures.value at c.in_ok-write_month-3.ensures.ok) in
    ends_in third (rw (c.quarter_bytes.ensures, c.total_of.ensures) at c.write_line.ensures)

use Rattle.std.proofs.Common.{arith, ◌≡◌, ℕ, List, get_or, ap, sym, ◌∙◌}
use Rattle.std.proofs.lemmas.List.{get_or_default}
use Rattle.std.proofs.lemmas.List.Sums.{sum_by_more}
use Rattle.ftd_rules.specs.declared.DaySum.{DaySum}
use Rattle.ftd_rules.specs.Liability.{share}
use Rattle.ftd_rules.specs.declared.run.PayRun.{PayRun}
use Rattle.ftd_store.specs.DaySums.{run_sum}
use Rattle.ftd_store.specs.DaySums.{owed_on}
use Rattle.ftd_store.proofs.DaySums.{share_none, owed_is}
use Rattle.ftd_store.proofs.day_sum_cells.sums_of.Goals as goal
use Rattle.ftd_store.proofs.day_sum_cells.sums_of.Goals.{then-sum-gt0+in_ok-add_sum, else-sum-gt0}

pub loop-run-preserved : goal.loop-run-preserved
loop-run-preserved c =
    let l = c.loop-run in
    let xs : List PayRun = c.args.runs.now in
    let i : ℕ = l.run-index in
    let x : PayRun = c.run-item.result in
    let is : x ≡ get_or xs i x = c.run-item.is in
    let sum : DaySum = c.in_ok-sum.sum in
    let made : sum ≡ run_sum x = c.in_ok-sum.ensures in
    let day_is : sum.day ≡ x.payday = ap (λ (s : DaySum). s.day) made in
    let at : (d : PayRun) → sum.day ≡ (get_or xs i d).payday = λ d. day_is
    ∙ ap (λ (r : PayRun). r.payday) (is ∙ get_or_default xs i x d c.loop-run-test.true) in
    let share_is : (day : ℕ) → owed_on day (get_or xs i x) ≡ share day day sum =
    λ day. ap (owed_on day) (sym is) ∙ sym (owed_is day x) ∙ ap (share day day) (sym made) in
    elim c.if-sum-gt0.branch [
      | then-sum-gt0+in_ok-add_sum w ↦
          let kept = w.in_ok-add_sum.ensures in
          rw w.sums-is (record {
            same = λ day. (
                let more = sum_by_more (owed_on day) xs i x c.loop-run-test.true in
                let here = share_is day in
                let so_far = l.invariant.same day in
                let added = kept.adds day in
                cc);
            positive = kept.positive l.invariant.positive w.if-sum-gt0.true;
            rise = λ order. kept.rise
                (rw (at x) (l.invariant.until order i x (omega arith) c.loop-run-test.true))
                (l.invariant.rise order);
            until = λ order k d low high. kept.until (get_or xs k d).payday
                (l.invariant.until order k d (omega arith) high)
                (let o = order i k d (omega arith) high in let a = at d in omega arith);
          })
      | else-sum-gt0 w ↦
          rw w.sums-is (record {
            same = λ day. (
                let more = sum_by_more (owed_on day) xs i x c.loop-run-test.true in
                let here = share_is day in
                let so_far = l.invariant.same day in
                let none = share_none day sum w.if-sum-gt0.false in
                omega arith);
            positive = l.invariant.positive;
            rise = l.invariant.rise;
            until = λ order k d low high. l.invariant.until order k d (omega arith) high;
          })
    ]

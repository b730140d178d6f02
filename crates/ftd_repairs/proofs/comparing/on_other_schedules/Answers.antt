use Rattle.std.proofs.Common.{◌<◌, ℕ, List, length, sym, ◌∙◌}
use Rattle.std.proofs.lemmas.Bool.{false≢true}
use Rattle.ftd_rules.specs.declared.YearLine.{YearLine}
use Rattle.ftd_machine.specs.History.{year_of_line}
use Rattle.ftd_machine.specs.Posting.{IsOnOtherSchedule}
use Rattle.ftd_repairs.proofs.Differing.{those_more, those_same}
use Rattle.ftd_repairs.proofs.comparing.on_other_schedules.Goals as goal
use Rattle.ftd_repairs.proofs.comparing.on_other_schedules.Goals.{then-not-has_schedule+in_ok-push}
use Rattle.ftd_repairs.proofs.comparing.on_other_schedules.Goals.{else-not-has_schedule}

pub loop-line-preserved : goal.loop-line-preserved
loop-line-preserved c rise =
    let before : List YearLine = c.args.before.now in
    let after : List YearLine = c.args.after.now in
    let Other : YearLine → Type 0 = IsOnOtherSchedule before in
    let x : YearLine = c.line-item.result in
    let i : ℕ = c.loop-line.line-index in
    let some : i < length after = c.loop-line-test.true in
    let so_far = c.loop-line.invariant rise in
    elim c.if-not-has_schedule.branch [
      | then-not-has_schedule+in_ok-push w ↦
          (let other : Other x = λ old has same. false≢true (sym w.if-not-has_schedule.true
          ∙ c.has_schedule.ensures.1 (old, has, same)) in
          rw (w.years-is, w.in_ok-push.ensures.items)
          (those_more year_of_line Other after c.loop-line.years.items i x rise some c.line-item.is
          other so_far))
      | else-not-has_schedule w ↦
          (let its = c.has_schedule.ensures.0 w.if-not-has_schedule.false in
          rw w.years-is (those_same year_of_line Other after c.loop-line.years.items i x some
          c.line-item.is (λ other. other its.0 its.1 its.2) so_far))
    ]

use Rattle.std.proofs.Common.{◌≡◌, ◌<◌, ◌∙◌, ℕ, List, true, false, length, sym}
use Rattle.ftd_store.proofs.Items.{kept_pair, left_pair}
use Rattle.ftd_rules.specs.declared.Obligation.{Obligation}
use Rattle.ftd_rules.specs.declared.verdict.DueRow.{DueRow}
use Rattle.ftd_questions.specs.DueRows.{IsRowBy, begins_in}
use Rattle.ftd_questions.proofs.due_rows.due_rows.Goals as goal
use Rattle.ftd_questions.proofs.due_rows.due_rows.Goals.{then-begins_in+in-Some+in_ok-push-in-Some}
use Rattle.ftd_questions.proofs.due_rows.due_rows.Goals.{else-begins_in}

pub loop-obligation-preserved : goal.loop-obligation-preserved
loop-obligation-preserved c =
    let quarter = c.args.quarter in
    let xs : List Obligation = c.args.obligations.now in
    let i : ℕ = c.loop-obligation.obligation-index in
    let x : Obligation = c.obligation-item.result in
    let some : i < length xs = c.loop-obligation-test.true in
    let R : Obligation → DueRow → Type 0 = IsRowBy c.args.of_return.now c.args.as_of in
    let so_far = c.loop-obligation.invariant in
    elim c.if-begins_in.branch [
      | then-begins_in+in-Some+in_ok-push-in-Some w ↦
          (let its : begins_in quarter x ≡ true = sym c.begins_in.ensures ∙ w.if-begins_in.true in
          rw (w.rows-is, w.in_ok-push-in-Some.ensures.items)
          (kept_pair R (begins_in quarter) xs c.loop-obligation.rows.items i x some
          c.obligation-item.is so_far w.in-Some.row its w.in-Some.ensures))
      | else-begins_in w ↦
          (let other : begins_in quarter x ≡ false =
          sym c.begins_in.ensures ∙ w.if-begins_in.false in
          rw w.rows-is (left_pair R (begins_in quarter) xs c.loop-obligation.rows.items i x some
          c.obligation-item.is so_far other))
    ]

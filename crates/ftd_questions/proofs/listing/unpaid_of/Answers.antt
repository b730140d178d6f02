use Rattle.std.proofs.Common.{◌≡◌, ◌<◌, ◌∙◌, ℕ, List, true, false, Bool, length, ap, sym, arith}
use Rattle.std.specs.Prelude.{filter}
use Rattle.ftd_rules.specs.declared.Obligation.{Obligation}
use Rattle.ftd_store.proofs.Replaced.{all_taken}
use Rattle.ftd_questions.specs.Listing.{is_unpaid}
use Rattle.ftd_questions.proofs.OwnDue.{kept_more, left_more}
use Rattle.ftd_questions.proofs.listing.unpaid_of.Goals.{then-is_unpaid+in_ok-push}
use Rattle.ftd_questions.proofs.listing.unpaid_of.Goals.{else-is_unpaid}
use Rattle.ftd_questions.proofs.listing.unpaid_of.Goals as goal

pub loop-obligation-preserved : goal.loop-obligation-preserved
loop-obligation-preserved c =
    let test : Obligation → Bool = is_unpaid c.args.payments.now c.args.as_of in
    let os : List Obligation = c.args.owed.now in
    let i : ℕ = c.loop-obligation.obligation-index in
    let o : Obligation = c.obligation-item.result in
    let some : i < length os = c.loop-obligation-test.true in
    let left = c.loop-obligation.left.items in
    let so_far = c.loop-obligation.invariant in
    elim c.if-is_unpaid.branch [
      | then-is_unpaid+in_ok-push w ↦
          (let its : test o ≡ true = sym c.is_unpaid.ensures ∙ w.if-is_unpaid.true in
          rw (w.left-is, w.in_ok-push.ensures.items)
          (kept_more test os i o some c.obligation-item.is left so_far its))
      | else-is_unpaid w ↦
          (let other : test o ≡ false = sym c.is_unpaid.ensures ∙ w.if-is_unpaid.false in
          rw w.left-is (left_more test os i o some c.obligation-item.is left so_far other))
    ]

pub returns : goal.returns
returns c =
    let os : List Obligation = c.args.owed.now in
    let i : ℕ = c.loop-obligation.obligation-index in
    let end = c.loop-obligation-test.false in
    c.loop-obligation.invariant
    ∙ ap (filter (is_unpaid c.args.payments.now c.args.as_of)) (all_taken os i (omega arith))

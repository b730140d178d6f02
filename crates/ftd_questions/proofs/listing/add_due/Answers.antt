use Rattle.std.proofs.Common.{◌≡◌, ◌<◌, ◌∙◌, ℕ, List, true, false, length, refl, subst, sym, arith}
use Rattle.ftd_rules.specs.declared.Obligation.{Obligation}
use Rattle.ftd_store.proofs.Replaced.{all_taken}
use Rattle.ftd_questions.specs.Listing.{AddsDue, is_due_on}
use Rattle.ftd_questions.proofs.ByAccount.{adds_kept, adds_left, adds_none}
use Rattle.ftd_questions.proofs.listing.add_due.Goals.{then-is_due_on+in_ok-account+in_ok-push}
use Rattle.ftd_questions.proofs.listing.add_due.Goals.{else-is_due_on}
use Rattle.ftd_questions.proofs.listing.add_due.Goals as goal

pub loop-obligation-init : goal.loop-obligation-init
loop-obligation-init c = adds_none c.args.from c.args.to c.args.account.now c.args.listed.now.items

pub loop-obligation-preserved : goal.loop-obligation-preserved
loop-obligation-preserved c =
    let from = c.args.from in
    let to = c.args.to in
    let name = c.args.account.now in
    let os : List Obligation = c.args.owed.now in
    let i : ℕ = c.loop-obligation.obligation-index in
    let o : Obligation = c.obligation-item.result in
    let some : i < length os = c.loop-obligation-test.true in
    let before = c.args.listed.now.items in
    let listed = c.loop-obligation.listed.items in
    let so_far = c.loop-obligation.invariant in
    elim c.if-is_due_on.branch [
      | then-is_due_on+in_ok-account+in_ok-push w ↦
          (let its : is_due_on from to o ≡ true =
          sym c.is_due_on.ensures ∙ w.if-is_due_on.true in
          rw (w.listed-is, w.in_ok-push.ensures.items)
          (adds_kept from to name os i o some c.obligation-item.is before listed so_far _ its
          (w.in_ok-account.ensures.ok, refl)))
      | else-is_due_on w ↦
          (let other : is_due_on from to o ≡ false =
          sym c.is_due_on.ensures ∙ w.if-is_due_on.false in
          rw w.listed-is
          (adds_left from to name os i o some c.obligation-item.is before listed so_far other))
    ]

pub returns : goal.returns
returns c =
    let os : List Obligation = c.args.owed.now in
    let i : ℕ = c.loop-obligation.obligation-index in
    let end = c.loop-obligation-test.false in
    subst (λ (l : List Obligation). AddsDue c.args.from c.args.to c.args.account.now l
    c.args.listed.now.items c.loop-obligation.listed.items) (all_taken os i (omega arith))
    c.loop-obligation.invariant

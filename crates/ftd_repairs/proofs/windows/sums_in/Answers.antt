use Rattle.std.proofs.Common.{rules, ◌≡◌, ◌<◌, ◌⊎◌, ℕ, List, get_or, ap, sym, subst, inl, inr}
use Rattle.std.proofs.Common.{arith}
use Rattle.std.proofs.lemmas.List.Sums.{sum_by_more, sum_by_push}
use Rattle.std.proofs.lemmas.Bool.{cases_lt}
use Rattle.ftd_rules.proofs.Walk.{share_before, share_after}
use Rattle.ftd_rules.specs.declared.DaySum.{DaySum}
use Rattle.ftd_rules.specs.Liability.{share}
use Rattle.ftd_store.proofs.Replaced.{all_taken}
use Rattle.ftd_repairs.specs.Repaired.{AreWithin}
use Rattle.ftd_repairs.proofs.windows.sums_in.Goals as goal
use Rattle.ftd_repairs.proofs.windows.sums_in.Goals.{then-le+then-le-2+in_ok-push, else-le}
use Rattle.ftd_repairs.proofs.windows.sums_in.Goals.{else-le-via-then-le+else-le-2}
use Rattle.ftd_repairs.proofs.windows.sums_in.Goals.{else-le-via-else-le}

-- a sum of a day out of the range adds nothing
share_out : (x : DaySum) (a b : ℕ) → (x.day < a) ⊎ (b < x.day) → share a b x ≡ 0
share_out x a b (inl before) = share_before x a b before
share_out x a b (inr after) = elim (cases_lt x.day a) [
  | inl before ↦ share_before x a b before
  | inr from ↦ share_after x a b from after
]

pub loop-sum-preserved : goal.loop-sum-preserved
loop-sum-preserved c a b low high =
    let w = c.args.window.now in
    let xs : List DaySum = c.args.sums.now in
    let i : ℕ = c.loop-sum.sum-index in
    let x : DaySum = c.sum-item.result in
    let within : List DaySum = c.loop-sum.within.items in
    let more = sum_by_more (share a b) xs i x c.loop-sum-test.true in
    let same : share a b (get_or xs i x) ≡ share a b x = ap (share a b) (sym c.sum-item.is) in
    let so_far = c.loop-sum.invariant a b low high in
    elim c.if-le.branch [
      | then-le+then-le-2+in_ok-push v ↦
          (let push = sum_by_push (share a b) within x in
          rw (v.within-is, v.in_ok-push.ensures.items) (omega arith))
      | else-le v ↦ rw v.within-is (elim v.else-le.branch [
        | else-le-via-then-le+else-le-2 u ↦
            (let late : w.to < x.day = search (rules, u.if-le-2.false, u.le-then-le.ensures) in
            let none = share_out x a b (inr (omega arith)) in
            omega arith)
        | else-le-via-else-le u ↦
            (let early : x.day < w.from = search (rules, u.if-le.false, c.le.ensures) in
            let none = share_out x a b (inl (omega arith)) in
            omega arith)
      ])
    ]

pub returns : goal.returns
returns c =
    let xs : List DaySum = c.args.sums.now in
    let i : ℕ = c.loop-sum.sum-index in
    let end = c.loop-sum-test.false in
    subst (λ (ds : List DaySum). AreWithin c.args.window.now ds c.loop-sum.within.items)
    (all_taken xs i (omega arith)) c.loop-sum.invariant

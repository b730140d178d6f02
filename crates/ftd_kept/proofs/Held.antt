-- Which obligation holds a day: one more of those looked at.
use Rattle.std.proofs.Common.{◌≡◌, ◌∙◌, sym, ap, refl, inl, inr, arith, ℕ, ◌+◌, ◌<◌, List, [], ◌∷◌}
use Rattle.std.proofs.Common.{◌++◌, take, length, get_or, Option, None, Some}
use Rattle.std.proofs.Math.Nat.{min-eq_left, min-eq_right}
use Rattle.std.proofs.lemmas.Bool.{cases_lt}
use Rattle.ftd_rules.specs.declared.Obligation.{Obligation}
use Rattle.ftd_rules.proofs.Owed.{has_append, has_left, has_right}
use Rattle.ftd_rules.specs.Laws.{Covers}
use Rattle.ftd_machine.specs.Kept.{IsHeldBy}
use Rattle.ftd_store.specs.Lists.{Pairs}
use Rattle.ftd_store.specs.declared.kept_cells.NumberedPayment.{NumberedPayment}
use Rattle.ftd_machine.specs.declared.kept.KeptPayment.{KeptPayment}
use Rattle.ftd_store.proofs.Items.{taken, pairs_more}
use Rattle.ftd_kept.specs.Payments.{earlier, kept_payment, IsKeptPayment}

-- the new one holds the day
holds_new : (xs : List Obligation) (o : Obligation) (day : ℕ) (held : Option ℕ)
    → IsHeldBy xs day held → Covers o day → IsHeldBy (xs ++ o ∷ []) day
    (Some (earlier held o.first))
holds_new xs o day None none h = (
  o,
  has_right xs (o ∷ []) o (inl refl),
  h,
  refl,
  λ p has hp. elim (has_append xs (o ∷ []) p has) [
    | inl old ↦ absurd (none p old hp)
    | inr (inl is) ↦ (let e = ap (λ (q : Obligation). q.first) is in omega arith)
    | inr (inr never) ↦ absurd never
  ],
)
holds_new xs o day (Some first) (q, hasq, hq, is_first, least) h = elim (cases_lt first o.first) [
  | inl before ↦
      let same = min-eq_left {n = first} {m = o.first} (omega arith) in (
        q,
        has_left xs (o ∷ []) q hasq,
        hq,
        is_first ∙ sym same,
        λ p has hp. elim (has_append xs (o ∷ []) p has) [
          | inl old ↦ (let l = least p old hp in omega arith)
          | inr (inl is) ↦ (let e = ap (λ (q : Obligation). q.first) is in omega arith)
          | inr (inr never) ↦ absurd never
        ],
      )
  | inr after ↦
      let same = min-eq_right {n = o.first} {m = first} after in (
        o,
        has_right xs (o ∷ []) o (inl refl),
        h,
        sym same,
        λ p has hp. elim (has_append xs (o ∷ []) p has) [
          | inl old ↦ (let l = least p old hp in omega arith)
          | inr (inl is) ↦ (let e = ap (λ (q : Obligation). q.first) is in omega arith)
          | inr (inr never) ↦ absurd never
        ],
      )
]

-- the new one does not hold the day
holds_old : (xs : List Obligation) (o : Obligation) (day : ℕ) (held : Option ℕ)
    → IsHeldBy xs day held → (Covers o day → ⊥) → IsHeldBy (xs ++ o ∷ []) day held
holds_old xs o day None none not =
    λ p has hp. elim (has_append xs (o ∷ []) p has) [
      | inl old ↦ none p old hp
      | inr (inl is) ↦ not
          (let f = ap (λ (q : Obligation). q.first) is in
          let l = ap (λ (q : Obligation). q.last) is in
          let a = hp.0 in let b = hp.1 in (omega arith, omega arith))
      | inr (inr never) ↦ never
    ]
holds_old xs o day (Some first) (q, hasq, hq, is_first, least) not = (
  q,
  has_left xs (o ∷ []) q hasq,
  hq,
  is_first,
  λ p has hp. elim (has_append xs (o ∷ []) p has) [
    | inl old ↦ least p old hp
    | inr (inl is) ↦ absurd (not (let f = ap (λ (q : Obligation). q.first) is in
        let l = ap (λ (q : Obligation). q.last) is in
        let a = hp.0 in let b = hp.1 in (omega arith, omega arith)))
    | inr (inr never) ↦ absurd never
  ],
)

-- it is the item at the place, and holds the day
pub held_by_this : (xs : List Obligation) (i : ℕ) (o : Obligation) (day : ℕ) (held : Option ℕ)
    → i < length xs → o ≡ get_or xs i o → IsHeldBy (take i xs) day held → Covers o day
    → IsHeldBy (take (i + 1) xs) day (Some (earlier held o.first))
held_by_this xs i o day held some is so_far h =
    rw (taken xs i o some is) (holds_new (take i xs) o day held so_far h)

-- it is the item at the place, and does not hold the day
pub held_before : (xs : List Obligation) (i : ℕ) (o : Obligation) (day : ℕ) (held : Option ℕ)
    → i < length xs → o ≡ get_or xs i o → IsHeldBy (take i xs) day held → (Covers o day → ⊥)
    → IsHeldBy (take (i + 1) xs) day held
held_before xs i o day held some is so_far not =
    rw (taken xs i o some is) (holds_old (take i xs) o day held so_far not)

-- one payment more is told
pub told_more : (owed : List Obligation) (rows : List NumberedPayment) (i : ℕ)
    (row : NumberedPayment) (held : Option ℕ) (xs : List KeptPayment)
    → i < length rows → row ≡ get_or rows i row
    → Pairs (IsKeptPayment owed) (take i rows) xs → IsHeldBy owed row.payment.value.for_day held
    → Pairs (IsKeptPayment owed) (take (i + 1) rows) (xs ++ kept_payment row held ∷ [])
told_more owed rows i row held xs some is so_far by =
    rw (taken rows i row some is)
    (pairs_more (IsKeptPayment owed) (take i rows) xs row (kept_payment row held) so_far
    (record { number = refl; payment = refl; voided = refl; obligation = by }))

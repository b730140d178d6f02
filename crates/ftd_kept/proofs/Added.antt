-- What is added to a list, item by item.
use Rattle.std.proofs.Common.{◌≡◌, ℕ, ◌+◌, ◌<◌, inl, inr, sym, subst, List, [], ◌∷◌, ◌++◌}
use Rattle.std.proofs.Common.{length, take, get_or, ◌⊎◌}
use Rattle.std.specs.Prelude.{◌↔◌}
use Rattle.std.specs.List.Sorted.{IsPermutation}
use Rattle.std.proofs.lemmas.List.Sorted.{IsPermutation-sym}
use Rattle.ftd_rules.proofs.Rising.{has_permuted}
use Rattle.ftd_rules.specs.Lists.{Has}
use Rattle.ftd_rules.proofs.Owed.{has_append, has_left, has_right}
use Rattle.ftd_store.proofs.Items.{has_more, has_now, has_still}
use Rattle.ftd_kept.specs.Unapplied.{Adds, IsOfOne}

-- there is none
pub adds_none : {X : Type 0} (Is : X → Type 0) (xs : List X) → ((x : X) → Is x → ⊥) → Adds Is xs xs
adds_none Is xs none x = (
  (λ has. inl has),
  (λ or. elim or [
    | inl has ↦ has
    | inr is ↦ absurd (none x is)
  ]),
)

-- there is this one alone
pub adds_one : {X : Type 0} (Is : X → Type 0) (xs : List X) (x : X) → Is x
    → ((z : X) → Is z → z ≡ x) → Adds Is xs (xs ++ x ∷ [])
adds_one Is xs x is only z = (
  (λ has. elim (has_append xs (x ∷ []) z has) [
    | inl before ↦ inl before
    | inr (inl here) ↦ inr (subst Is (sym here) is)
    | inr (inr never) ↦ absurd never
  ]),
  (λ or. elim or [
    | inl before ↦ has_left xs (x ∷ []) z before
    | inr one ↦ has_right xs (x ∷ []) z (inl (only z one))
  ]),
)

-- of one item more
pub adds_next : {X Y : Type 0} (IsOf : X → Y → Type 0) (xs : List X) (i : ℕ) (x : X)
    → i < length xs → x ≡ get_or xs i x → (before mid after : List Y)
    → Adds (IsOfOne IsOf (take i xs)) before mid → Adds (IsOf x) mid after
    → Adds (IsOfOne IsOf (take (i + 1) xs)) before after
adds_next IsOf xs i x some is before mid after so_far adds y = (
  (λ has. elim ((adds y).0 has) [
    | inl there ↦ elim ((so_far y).0 there) [
      | inl old ↦ inl old
      | inr of ↦ inr (of.0, has_still xs i x of.0 some is of.1, of.2)
    ]
    | inr here ↦ inr (x, has_now xs i x some is, here)
  ]),
  (λ or. elim or [
    | inl old ↦ (adds y).1 (inl ((so_far y).1 (inl old)))
    | inr of ↦ elim (has_more xs i x of.0 some is of.1) [
      | inl before_it ↦ (adds y).1 (inl ((so_far y).1 (inr (of.0, before_it, of.2))))
      | inr same ↦ (adds y).1 (inr (subst (λ z. IsOf z y) same of.2))
    ]
  ]),
)

-- of two kinds, one after the other, and then in another order
pub adds_both : {X : Type 0} (First Second : X → Type 0) (none mid rows sorted : List X)
    → none ≡ [] → Adds First none mid → Adds Second mid rows → IsPermutation rows sorted
    → (x : X) → Has sorted x ↔ (First x ⊎ Second x)
adds_both First Second none mid rows sorted empty first second same x = (
  (λ has. elim ((second x).0 (has_permuted rows sorted same x has)) [
    | inl there ↦ elim ((first x).0 there) [
      | inl old ↦ absurd (subst (λ xs. Has xs x) empty old)
      | inr one ↦ inl one
    ]
    | inr other ↦ inr other
  ]),
  (λ or. has_permuted sorted rows (IsPermutation-sym rows sorted same) x (elim or [
    | inl one ↦ (second x).1 (inl ((first x).1 (inr one)))
    | inr other ↦ (second x).1 (inr other)
  ])),
)

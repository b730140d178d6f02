-- A list that is put in order has the same members, and keys that differ still differ.
use Rattle.std.proofs.Common.{◌≡◌, ◌∙◌, inl, inr, refl, sym, ap, ℕ, Bool, true, false}
use Rattle.std.proofs.Common.{List, [], length}
use Rattle.std.specs.Prelude.{if◌then◌else◌, ◌∷◌}
use Rattle.std.specs.List.{sum_by}
use Rattle.std.specs.List.Sorted.{IsPermutation}
use Rattle.std.proofs.lemmas.List.Sorted.{IsPermutation-refl, IsPermutation-trans}
use Rattle.std.proofs.lemmas.List.Sorted.{IsPermutation-cons, IsPermutation-sym}
use Rattle.std.proofs.lemmas.List.Sorted.{IsPermutation-middle, sum_by-IsPermutation}
use Rattle.std.proofs.lemmas.List.Sorted.{length_permutation}
use Rattle.ftd_rules.specs.Lists.{Has}
use Rattle.ftd_rules.proofs.Rising.{has_permuted}
use Rattle.ftd_machine.specs.Sound.{AreDistinct}
use Rattle.ftd_machine.specs.Journal.{put_in, in_order}

module _ {X : Type 0} (before : X → X → Bool) where
  put_at : (x y : X) (ys : List X) (b : Bool) → IsPermutation (x ∷ ys) (put_in before x ys)
      → IsPermutation (x ∷ y ∷ ys) (if b then x ∷ y ∷ ys else y ∷ put_in before x ys)
  put_at x y ys true later = IsPermutation-refl (x ∷ y ∷ ys)
  put_at x y ys false later =
      IsPermutation-trans (x ∷ y ∷ ys) (y ∷ x ∷ ys) (y ∷ put_in before x ys)
      (IsPermutation-middle (x ∷ []) y ys)
      (IsPermutation-cons y (x ∷ ys) (put_in before x ys) later)

  put_is : (x : X) (ys : List X) → IsPermutation (x ∷ ys) (put_in before x ys)
  put_is x [] = IsPermutation-refl (x ∷ [])
  put_is x (y ∷ ys) = put_at x y ys (before x y) (put_is x ys)

  pub ordered_is : (xs : List X) → IsPermutation xs (in_order before xs)
  ordered_is [] = IsPermutation-refl []
  ordered_is (x ∷ xs) =
      IsPermutation-trans (x ∷ xs) (x ∷ in_order before xs) (put_in before x (in_order before xs))
      (IsPermutation-cons x xs (in_order before xs) (ordered_is xs)) (put_is x (in_order before xs))

  -- the same members
  pub has_ordered : (xs : List X) (x : X) → Has (in_order before xs) x → Has xs x
  has_ordered xs x has = has_permuted xs (in_order before xs) (ordered_is xs) x has

  pub ordered_has : (xs : List X) (x : X) → Has xs x → Has (in_order before xs) x
  ordered_has xs x has =
      has_permuted (in_order before xs) xs
      (IsPermutation-sym xs (in_order before xs) (ordered_is xs)) x has

  pub length_ordered : (xs : List X) → length (in_order before xs) ≡ length xs
  length_ordered xs = length_permutation xs (in_order before xs) (ordered_is xs)

  pub sum_ordered : (f : X → ℕ) (xs : List X) → sum_by f (in_order before xs) ≡ sum_by f xs
  sum_ordered f xs = sum_by-IsPermutation f xs (in_order before xs) (ordered_is xs)

  -- keys that differ
  module _ {K : Type 0} (key : X → K) where
    apart_at : (x y : X) (ys : List X) (b : Bool) → AreDistinct key (y ∷ ys)
        → AreDistinct key (put_in before x ys)
        → ((z : X) → Has (y ∷ ys) z → key z ≡ key x → ⊥)
        → AreDistinct key (if b then x ∷ y ∷ ys else y ∷ put_in before x ys)
    apart_at x y ys true own others fresh = (fresh, own)
    apart_at x y ys false own others fresh = (
      (λ z has same. elim (has_permuted (x ∷ ys) (put_in before x ys) (put_is x ys) z has) [
        | inl is ↦ fresh y (inl refl) (sym same ∙ ap key is)
        | inr there ↦ own.0 z there same
      ]),
      others,
    )

    put_apart : (x : X) (ys : List X) → AreDistinct key ys
        → ((z : X) → Has ys z → key z ≡ key x → ⊥) → AreDistinct key (put_in before x ys)
    put_apart x [] apart fresh = ((λ z has. absurd has), tt)
    put_apart x (y ∷ ys) apart fresh =
        apart_at x y ys (before x y) apart
        (put_apart x ys apart.1 (λ z has. fresh z (inr has))) fresh

    pub ordered_apart : (xs : List X) → AreDistinct key xs → AreDistinct key (in_order before xs)
    ordered_apart [] apart = tt
    ordered_apart (x ∷ xs) apart =
        put_apart x (in_order before xs) (ordered_apart xs apart.1)
        (λ z has. apart.0 z (has_ordered xs z has))

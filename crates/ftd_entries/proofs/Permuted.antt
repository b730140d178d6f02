-- Rows in any order of which at most one passes a test.
use Rattle.std.proofs.Common.{◌≡◌, ◌∙◌, refl, sym, ap, subst, inl, inr, ◌≤◌, Bool, cond}
use Rattle.std.proofs.Common.{List, [], ◌∷◌, filter, length, Option, None, Some, arith}
use Rattle.std.specs.Prelude.{IsPermutation}
use Rattle.std.proofs.lemmas.List.Sorted.{sum_by-IsPermutation}
use Rattle.std.proofs.lemmas.List.Sums.{length-filter}
use Rattle.ftd_rules.specs.Lists.{Has}
use Rattle.ftd_rules.proofs.Rising.{has_permuted}
use Rattle.ftd_rules.proofs.Members.{has_kept}
use Rattle.ftd_store.specs.Reading.{rows_of}
use Rattle.ftd_machine.proofs.Members.{has_filtered}

pub at_most_one : {X Y : Type 0} (row : Y → X) (o : Option Y) → length (rows_of row o) ≤ 1
at_most_one row None = omega arith
at_most_one row (Some y) = omega arith

pub one_filtered : {X : Type 0} (p : X → Bool) (xs ys zs : List X) → IsPermutation xs ys
    → length zs ≤ 1 → filter p xs ≡ zs → filter p ys ≡ zs
one_filtered p xs ys zs moved few is = by (filter p ys) zs few same (λ y has.
    (let from = has_filtered p ys y has in
    subst (λ rows. Has rows y) is
    (has_kept p xs y (has_permuted xs ys moved y from.0) from.1)))
  where
    same : length (filter p ys) ≡ length zs
    same =
        length-filter p ys ∙ sum_by-IsPermutation (λ x. cond (p x) 1 0) xs ys moved
        ∙ sym (length-filter p xs) ∙ ap length is

    by : {X : Type 0} (rows zs : List X) → length zs ≤ 1 → length rows ≡ length zs
        → ((y : X) → Has rows y → Has zs y) → rows ≡ zs
    by [] [] few same among = refl
    by [] (z ∷ zs) few same among = absurd (omega (arith, same))
    by (y ∷ rows) [] few same among = absurd (among y (inl refl))
    by (y ∷ []) (z ∷ []) few same among = elim (among y (inl refl)) [
      | inl is ↦ rw is refl
      | inr none ↦ absurd none
    ]
    by (y ∷ x ∷ rows) (z ∷ []) few same among = absurd (omega (arith, same))
    by (y ∷ rows) (z ∷ w ∷ zs) few same among = absurd (omega (arith, few))

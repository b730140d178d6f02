-- What stands in order from each to the next stands so to all after it.
use Rattle.std.proofs.Common.{◌≡◌, ℕ, ◌<◌, ◌==◌, ◌&&◌, ◌||◌, ◌⊎◌, inl, inr, sym, subst, Bool, true}
use Rattle.std.proofs.Common.{List, [], ◌∷◌}
use Rattle.std.specs.Prelude.{nat_lt}
use Rattle.std.proofs.lemmas.Bool.{ltb-true, eqb-true, or_cases, and_parts}
use Rattle.ftd_rules.specs.Lists.{Has, are_in_order}
use Rattle.ftd_store.specs.Lists.{Pairs}
use Rattle.ftd_store.proofs.Items.{paired_from}
use Rattle.ftd_machine.specs.Agenda.{EachToLater}

module _ {X : Type 0} (is_before : X → X → Bool) (R : X → X → Type 0)
    (means : (x y : X) → is_before x y ≡ true → R x y)
    (then : (x y z : X) → R x y → R y z → R x z) where
  first_before : (x : X) (xs : List X) → are_in_order is_before (x ∷ xs) ≡ true → EachToLater R xs
      → (later : X) → Has xs later → R x later
  first_before x [] e each later has = absurd has
  first_before x (y ∷ ys) e each later has =
      let parts = and_parts (is_before x y) (are_in_order is_before (y ∷ ys)) e in
      let here : R x y = means x y parts.0 in
      elim has [
        | inl is ↦ subst (R x) (sym is) here
        | inr more ↦ then x y later here (each.0 later more)
      ]

  pub in_order : (xs : List X) → are_in_order is_before xs ≡ true → EachToLater R xs
  in_order [] e = tt
  in_order (x ∷ []) e = ((λ later has. absurd has), tt)
  in_order (x ∷ y ∷ ys) e =
      let parts = and_parts (is_before x y) (are_in_order is_before (y ∷ ys)) e in
      let rest = in_order (y ∷ ys) parts.1 in
      (first_before x (y ∷ ys) e rest, rest)

-- by one number, and where that is the same by another
pub two_before : {X : Type 0} (one two : X → ℕ) (x y : X)
    → (nat_lt (one x) (one y) || ((one x == one y) && nat_lt (two x) (two y))) ≡ true
    → (one x < one y) ⊎ ((one x ≡ one y) × (two x < two y))
two_before one two x y e =
    elim (or_cases (nat_lt (one x) (one y)) ((one x == one y) && nat_lt (two x) (two y)) e) [
      | inl less ↦ inl (ltb-true (one x) (one y) less)
      | inr same ↦ (let parts = and_parts (one x == one y) (nat_lt (two x) (two y)) same in
          inr (eqb-true (one x) (one y) parts.0, ltb-true (two x) (two y) parts.1))
    ]

-- what is paired with elements in order is in order too
pub paired_rise : {X Y : Type 0} (R : X → Y → Type 0) {Before : X → X → Type 0}
    {After : Y → Y → Type 0}
    → ((x other : X) (y later : Y) → R x y → R other later → Before x other → After y later)
    → (xs : List X) (ys : List Y) → Pairs R xs ys → EachToLater Before xs → EachToLater After ys
paired_rise R then [] [] pairs each = tt
paired_rise R then [] (y ∷ ys) pairs each = absurd pairs
paired_rise R then (x ∷ xs) [] pairs each = absurd pairs
paired_rise R then (x ∷ xs) (y ∷ ys) pairs each = (
  (λ later has. (let p = paired_from R xs ys later pairs.1 has in
      then x p.0 y later pairs.0 p.2 (each.0 p.0 p.1))),
  paired_rise R then xs ys pairs.1 each.1,
)

-- Numbers of which no two are the same.
use Rattle.std.proofs.Common.{◌≡◌, ℕ, ◌+◌, ◌<◌, ◌==◌, Bool, false, List, [], ◌∷◌, suc}
use Rattle.std.proofs.Common.{sym, ap, subst, eqb, ◌∙◌, arith, inl, inr}
use Rattle.std.specs.Prelude.{◌↔◌, IsTrue, map}
use Rattle.std.specs.Ordering.{nat_cmp}
use Rattle.std.specs.List.{IsDistinct}
use Rattle.std.specs.List.Sorted.{IsPermutation, IsSorted, IsStrictlyIncreasing}
use Rattle.std.proofs.lemmas.Bool.{cases_Bool, eqb-true, true≢false}
use Rattle.std.proofs.lemmas.List.Elements.{All-from_recursion, recursion_from_All}
use Rattle.std.proofs.lemmas.List.Sorted.{IsPermutation-sym, IsNonDecreasingBy-from_sort}
use Rattle.std.proofs.lemmas.Map.Keys.{IsDistinct-cons, IsDistinct-head, IsDistinct-tail}
use Rattle.std.proofs.lemmas.Map.Keys.{IsDistinct-from_apart, IsDistinct-IsPermutation}
use Rattle.std.proofs.lemmas.Map.Keys.{IsStrictlyIncreasing-from_distinct}
use Rattle.ftd_rules.specs.Lists.{KeysRise}
use Rattle.ftd_rules.proofs.Members.{mapped_has, has_mapped}
use Rattle.ftd_rules.proofs.Rising.{all_has, has_all}
use Rattle.ftd_machine.proofs.Keeping.{same_key}
use Rattle.ftd_machine.specs.Sound.{AreDistinct}
use Rattle.ftd_sound.specs.Private.Plain.{AreApart, key_in}

-- ---- numbers that rise

rises : (xs : List ℕ) → IsStrictlyIncreasing xs → KeysRise (λ (n : ℕ). n) xs
rises [] h = tt
rises (x ∷ []) h = ((λ later has. absurd has), tt)
rises (x ∷ y ∷ xs) h =
    let rest : KeysRise (λ (n : ℕ). n) (y ∷ xs) = rises (y ∷ xs)
    (λ k l. let next : suc k + 1 ≡ suc (k + 1) = omega arith in
    rw next at (h (suc k) (omega arith))) in
    let first : x < y = h 0 (omega arith) in (
      (λ later has. elim has [
        | inl e ↦ omega arith
        | inr after ↦ let more = rest.0 later after in omega arith
      ]),
      rest,
    )

apart_rising : (xs : List ℕ) → KeysRise (λ (n : ℕ). n) xs → AreApart xs
apart_rising [] h = tt
apart_rising (x ∷ xs) h =
    ((λ later has same. let less = h.0 later has in absurd (omega arith)), apart_rising xs h.1)

-- ---- by std's word

other_number : (x y : ℕ) → (y ≡ x → ⊥) → (x == y) ≡ false
other_number x y apart = elim (cases_Bool (x == y)) [
  | inl same ↦ absurd (apart (sym (eqb-true x y same)))
  | inr other ↦ other
]

distinct : (xs : List ℕ) → AreApart xs → IsDistinct eqb xs
distinct [] h = IsDistinct-from_apart eqb [] (λ i j d l m. absurd (omega arith))
distinct (x ∷ xs) h = IsDistinct-cons eqb x xs
    (recursion_from_All (λ y. eqb x y ≡ false) xs
    (all_has (λ y. eqb x y ≡ false) xs (λ y has. other_number x y (h.0 y has))))
    (distinct xs h.1)

apart : (xs : List ℕ) → IsDistinct eqb xs → AreApart xs
apart [] h = tt
apart (x ∷ xs) h = (
  (λ later has same.
      let off = has_all (λ y. eqb x y ≡ false) xs
      (All-from_recursion (λ y. eqb x y ≡ false) xs (IsDistinct-head eqb x xs h)) later has in
      absurd (true≢false (sym (same_key x) ∙ ap (λ y. x == y) (sym same) ∙ off))),
  apart xs (IsDistinct-tail eqb x xs h),
)

flips : (x y : ℕ) → (x == y) ≡ (y == x)
flips x y = elim (cases_Bool (x == y)) [
  | inl same ↦ let is = eqb-true x y same in
      ap (λ z. x == z) (sym is) ∙ ap (λ z. z == x) is
  | inr off ↦ off ∙ sym (other_number y x
      (λ is. true≢false (sym (same_key x) ∙ ap (λ z. x == z) is ∙ off)))
]

-- numbers that are put in order rise where no two are the same
pub apart_ordered : (xs ys : List ℕ) (r : Bool) → IsPermutation xs ys → IsSorted nat_cmp ys
    → (IsTrue r ↔ IsStrictlyIncreasing ys) → IsTrue r ↔ AreApart xs
apart_ordered xs ys r moved sorted is = (
  (λ e. apart xs (IsDistinct-IsPermutation eqb flips ys xs (IsPermutation-sym xs ys moved)
      (distinct ys (apart_rising ys (rises ys (is.0 e)))))),
  (λ h. is.1 (IsStrictlyIncreasing-from_distinct ys (IsNonDecreasingBy-from_sort (λ x. x) ys sorted)
      (IsDistinct-IsPermutation eqb flips xs ys moved (distinct xs h)))),
)

-- ---- keys

-- the keys of what is mapped
pub distinct_mapped : {X Y K : Type 0} (f : X → Y) (key : Y → K) (xs : List X)
    → AreDistinct key (map f xs) ↔ AreDistinct (λ (x : X). key (f x)) xs
distinct_mapped f key xs = (to f key xs, from f key xs)
  where
    to : {X Y K : Type 0} (f : X → Y) (key : Y → K) (xs : List X) → AreDistinct key (map f xs)
        → AreDistinct (λ (x : X). key (f x)) xs
    to f key [] h = tt
    to f key (x ∷ xs) h = (
      (λ later has same. h.0 (f later) (mapped_has f xs later has) same),
      to f key xs h.1,
    )

    from : {X Y K : Type 0} (f : X → Y) (key : Y → K) (xs : List X)
        → AreDistinct (λ (x : X). key (f x)) xs → AreDistinct key (map f xs)
    from f key [] h = tt
    from f key (x ∷ xs) h = (
      (λ later has same. let of = has_mapped f xs later has in
          h.0 of.0 of.1 (sym (ap key of.2) ∙ same)),
      from f key xs h.1,
    )

-- no two entries have the same key where no two of their keys are the same
pub keys_decided : {X : Type 0} (xs : List (ℕ × X)) (keys : List ℕ) (r : Bool)
    → keys ≡ map key_in xs → (IsTrue r ↔ AreApart keys) → IsTrue r ↔ AreDistinct key_in xs
keys_decided {X = X} xs keys r same is =
    let P : List ℕ → Type 0 = λ ks. IsTrue r ↔ AreApart ks in
    let by_keys : IsTrue r ↔ AreApart (map key_in xs) = subst P same is in
    let both = distinct_mapped (key_in {X = X}) (λ (number : ℕ). number) xs in
    (λ e. both.0 (by_keys.0 e), λ h. by_keys.1 (both.1 h))

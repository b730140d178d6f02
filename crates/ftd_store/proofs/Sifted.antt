-- Lists in another order, of which some items are kept.
use Rattle.std.proofs.Common.{◌≡◌, ℕ, zero, suc, ◌<◌, List, [], ◌∷◌, Bool, inl, inr}
use Rattle.std.proofs.Common.{refl, sym, ap, ◌∙◌, subst, arith, length, get_or, set, swap}
use Rattle.std.specs.Prelude.{filter}
use Rattle.std.specs.List.Sorted.{IsPermutation}
use Rattle.std.proofs.lemmas.Bool.{cases_Bool}
use Rattle.std.proofs.lemmas.List.Sorted.{IsPermutation-refl, IsPermutation-trans}
use Rattle.std.proofs.lemmas.List.Sorted.{IsPermutation-cons, IsPermutation-middle}
use Rattle.std.proofs.lemmas.List.Sorted.{IsPermutation-keeps}
use Rattle.ftd_rules.proofs.Members.{filter_in, filter_out}

-- ---- what a test keeps

-- one test after another is the other after the one
pub both_tests : {X : Type 0} (p q : X → Bool) (xs : List X) → filter p (filter q xs) ≡ filter q
    (filter p xs)
both_tests p q [] = refl
both_tests {X = X} p q (x ∷ xs) =
    let rest = both_tests p q xs in
    elim (cases_Bool (p x)) [
      | inl a ↦ elim (cases_Bool (q x)) [
        | inl b ↦ ap (filter p) (filter_in q x xs b)
            ∙ (filter_in p x (filter q xs) a
            ∙ (ap (λ (l : List X). x ∷ l) rest
            ∙ (sym (filter_in q x (filter p xs) b) ∙ sym (ap (filter q) (filter_in p x xs a)))))
        | inr b ↦ ap (filter p) (filter_out q x xs b)
            ∙ (rest ∙ (sym (filter_out q x (filter p xs) b)
            ∙ sym (ap (filter q) (filter_in p x xs a))))
      ]
      | inr a ↦ elim (cases_Bool (q x)) [
        | inl b ↦ ap (filter p) (filter_in q x xs b)
            ∙ (filter_out p x (filter q xs) a ∙ (rest ∙ sym (ap (filter q) (filter_out p x xs a))))
        | inr b ↦ ap (filter p) (filter_out q x xs b)
            ∙ (rest ∙ sym (ap (filter q) (filter_out p x xs a)))
      ]
    ]

-- ---- in another order

-- lists that are equal to two in another order
pub both_are : {X : Type 0} (as_left as_right left right : List X) → as_left ≡ left
    → as_right ≡ right → IsPermutation left right → IsPermutation as_left as_right
both_are as_left as_right left right e f h = subst (λ l. IsPermutation l as_right) (sym e)
    (subst (λ l. IsPermutation left l) (sym f) h)

two : {X : Type 0} (p : X → Bool) (x y : X) (xs : List X) → IsPermutation (filter p (x ∷ y ∷ xs))
    (filter p (y ∷ x ∷ xs))
two {X = X} p x y xs =
    let f : List X = filter p xs in
    elim (cases_Bool (p x)) [
      | inl a ↦ elim (cases_Bool (p y)) [
        | inl b ↦ both_are (filter p (x ∷ y ∷ xs)) (filter p (y ∷ x ∷ xs)) (x ∷ y ∷ f) (y ∷ x ∷ f)
            (filter_in p x (y ∷ xs) a ∙ ap (λ (l : List X). x ∷ l) (filter_in p y xs b))
            (filter_in p y (x ∷ xs) b ∙ ap (λ (l : List X). y ∷ l) (filter_in p x xs a))
            (IsPermutation-middle (x ∷ []) y f)
        | inr b ↦ both_are (filter p (x ∷ y ∷ xs)) (filter p (y ∷ x ∷ xs)) (x ∷ f) (x ∷ f)
            (filter_in p x (y ∷ xs) a ∙ ap (λ (l : List X). x ∷ l) (filter_out p y xs b))
            (filter_out p y (x ∷ xs) b ∙ filter_in p x xs a) (IsPermutation-refl (x ∷ f))
      ]
      | inr a ↦ elim (cases_Bool (p y)) [
        | inl b ↦ both_are (filter p (x ∷ y ∷ xs)) (filter p (y ∷ x ∷ xs)) (y ∷ f) (y ∷ f)
            (filter_out p x (y ∷ xs) a ∙ filter_in p y xs b) (filter_in p y (x ∷ xs) b
            ∙ ap (λ (l : List X). y ∷ l) (filter_out p x xs a)) (IsPermutation-refl (y ∷ f))
        | inr b ↦ both_are (filter p (x ∷ y ∷ xs)) (filter p (y ∷ x ∷ xs)) f f
            (filter_out p x (y ∷ xs) a ∙ filter_out p y xs b) (filter_out p y (x ∷ xs) b
            ∙ filter_out p x xs a) (IsPermutation-refl f)
      ]
    ]

one_more : {X : Type 0} (p : X → Bool) (x : X) (xs ys : List X) → IsPermutation (filter p xs)
    (filter p ys) → IsPermutation (filter p (x ∷ xs)) (filter p (x ∷ ys))
one_more p x xs ys h =
    elim (cases_Bool (p x)) [
      | inl a ↦ both_are (filter p (x ∷ xs)) (filter p (x ∷ ys)) (x ∷ filter p xs) (x ∷ filter p ys)
          (filter_in p x xs a) (filter_in p x ys a)
          (IsPermutation-cons x (filter p xs) (filter p ys) h)
      | inr a ↦ both_are (filter p (x ∷ xs)) (filter p (x ∷ ys)) (filter p xs) (filter p ys)
          (filter_out p x xs a) (filter_out p x ys a) h
    ]

-- the first item and a later one
exchanged : {X : Type 0} (p : X → Bool) (a : X) (l : List X) (j : ℕ) (d : X) → j < length l
    → IsPermutation (filter p (a ∷ l)) (filter p (get_or l j d ∷ set l j a))
exchanged p a [] j d some = absurd (omega arith)
exchanged p a (y ∷ l) zero d some = two p a y l
exchanged p a (y ∷ l) (suc j) d some =
    let b = get_or l j d in
    IsPermutation-trans (filter p (a ∷ y ∷ l)) (filter p (y ∷ a ∷ l)) (filter p (b ∷ y ∷ set l j a))
    (two p a y l)
    (IsPermutation-trans (filter p (y ∷ a ∷ l)) (filter p (y ∷ b ∷ set l j a))
    (filter p (b ∷ y ∷ set l j a))
    (one_more p y (a ∷ l) (b ∷ set l j a) (exchanged p a l j d (omega arith)))
    (two p y b (set l j a)))

swapped : {X : Type 0} (p : X → Bool) (l : List X) (i j : ℕ) (d : X) → i < length l → j < length l
    → IsPermutation (filter p l) (filter p (set (set l i (get_or l j d)) j (get_or l i d)))
swapped p [] i j d m n = absurd (omega arith)
swapped p (x ∷ l) zero zero d m n = IsPermutation-refl (filter p (x ∷ l))
swapped p (x ∷ l) zero (suc j) d m n = exchanged p x l j d (omega arith)
swapped p (x ∷ l) (suc i) zero d m n = exchanged p x l i d (omega arith)
swapped p (x ∷ l) (suc i) (suc j) d m n =
    one_more p x l (set (set l i (get_or l j d)) j (get_or l i d))
    (swapped p l i j d (omega arith) (omega arith))

-- the items that are kept, in another order too
pub sifted : {X : Type 0} (p : X → Bool) (xs ys : List X) → IsPermutation xs ys
    → IsPermutation (filter p xs) (filter p ys)
sifted {X = X} p xs ys moved =
    IsPermutation-keeps xs (λ l. IsPermutation (filter p xs) (filter p l))
    (IsPermutation-refl (filter p xs)) step ys moved
  where
    step : (l : List X) (i j : ℕ) → i < length l → j < length l → IsPermutation (filter p xs)
        (filter p l) → IsPermutation (filter p xs) (filter p (swap l i j))
    step [] i j m n h = absurd (omega arith)
    step (x ∷ l) i j m n h = IsPermutation-trans (filter p xs) (filter p (x ∷ l))
        (filter p (swap (x ∷ l) i j)) h (swapped p (x ∷ l) i j x m n)

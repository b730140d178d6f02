-- The items of a list as far as a loop has come.
use Rattle.std.proofs.Common.{◌≡◌, ◌⊎◌, ℕ, zero, suc, ◌+◌, ◌<◌, inl, inr, List, [], ◌∷◌, ◌++◌, take}
use Rattle.std.proofs.Common.{length, get_or, refl, sym, ap, subst, ◌∙◌, arith, Bool, true, false}
use Rattle.std.specs.Prelude.{filter}
use Rattle.std.specs.List.{sum_by}
use Rattle.std.proofs.lemmas.List.{take_more, append-nil}
use Rattle.std.proofs.lemmas.List.Elements.{filter-append}
use Rattle.std.proofs.lemmas.List.Sums.{sum_by_more}
use Rattle.ftd_rules.specs.Lists.{Has}
use Rattle.ftd_rules.proofs.Owed.{has_append, has_left, has_right}
use Rattle.ftd_store.specs.Lists.{Pairs}

-- one item more
pub taken : {X : Type 0} (xs : List X) (i : ℕ) (x : X) → i < length xs → x ≡ get_or xs i x
    → take (i + 1) xs ≡ take i xs ++ x ∷ []
taken {X = X} xs i x some is = take_more xs i x some ∙ ap (λ (y : X). take i xs ++ y ∷ []) (sym is)

-- what the items amount to, with one more
pub sum_taken : {X : Type 0} (amount : X → ℕ) (xs : List X) (i : ℕ) (x : X) → i < length xs
    → x ≡ get_or xs i x → sum_by amount (take (i + 1) xs) ≡ sum_by amount (take i xs) + amount x
sum_taken amount xs i x some is =
    sum_by_more amount xs i x some ∙ ap (λ y. sum_by amount (take i xs) + amount y) (sym is)

-- one pair more
pub pairs_more : {X Y : Type 0} (R : X → Y → Type 0) (xs : List X) (ys : List Y) (x : X) (y : Y)
    → Pairs R xs ys → R x y → Pairs R (xs ++ x ∷ []) (ys ++ y ∷ [])
pairs_more R [] [] x y h r = (r, tt)
pairs_more R [] (b ∷ ys) x y h r = absurd h
pairs_more R (a ∷ xs) [] x y h r = absurd h
pairs_more R (a ∷ xs) (b ∷ ys) x y h r = (h.0, pairs_more R xs ys x y h.1 r)

-- as far as a loop has come that goes by the items which a test keeps: one pair more, or none
module _ {X Y : Type 0} (R : X → Y → Type 0) (p : X → Bool) (xs : List X) (ys : List Y) (i : ℕ)
    (x : X) (some : i < length xs) (is : x ≡ get_or xs i x)
    (so_far : Pairs R (filter p (take i xs)) ys) where
  more : filter p (take (i + 1) xs) ≡ filter p (take i xs) ++ filter p (x ∷ [])
  more = ap (filter p) (taken xs i x some is) ∙ filter-append p (take i xs) (x ∷ [])

  pub kept_pair : (y : Y) → p x ≡ true → R x y → Pairs R (filter p (take (i + 1) xs)) (ys ++ y ∷ [])
  kept_pair y kept r =
      let one : filter p (x ∷ []) ≡ x ∷ [] = rw kept refl in
      subst (λ (l : List X). Pairs R l (ys ++ y ∷ []))
      (sym (more ∙ ap (λ (l : List X). filter p (take i xs) ++ l) one))
      (pairs_more R (filter p (take i xs)) ys x y so_far r)

  pub left_pair : p x ≡ false → Pairs R (filter p (take (i + 1) xs)) ys
  left_pair left =
      let none : filter p (x ∷ []) ≡ [] = rw left refl in
      subst (λ (l : List X). Pairs R l ys)
      (sym (more ∙ (ap (λ (l : List X). filter p (take i xs) ++ l) none
      ∙ append-nil (filter p (take i xs))))) so_far

-- pairs have as many items on either side
pub pairs_length : {X Y : Type 0} (R : X → Y → Type 0) (xs : List X) (ys : List Y) → Pairs R xs ys
    → length xs ≡ length ys
pairs_length R [] [] h = refl
pairs_length R [] (b ∷ ys) h = absurd h
pairs_length R (a ∷ xs) [] h = absurd h
pairs_length R (a ∷ xs) (b ∷ ys) h = let rest = pairs_length R xs ys h.1 in omega arith

-- each item of either list has its pair
pub paired_from : {X Y : Type 0} (R : X → Y → Type 0) (xs : List X) (ys : List Y) (y : Y)
    → Pairs R xs ys → Has ys y → (x : X) × Has xs x × R x y
paired_from R [] [] y pairs has = absurd has
paired_from R [] (z ∷ ys) y pairs has = absurd pairs
paired_from R (x ∷ xs) [] y pairs has = absurd has
paired_from R (x ∷ xs) (z ∷ ys) y pairs (inl is) = (x, inl refl, subst (R x) (sym is) pairs.0)
paired_from R (x ∷ xs) (z ∷ ys) y pairs (inr has) = let rest = paired_from R xs ys y pairs.1 has in
    (rest.0, inr rest.1, rest.2)

pub paired_to : {X Y : Type 0} (R : X → Y → Type 0) (xs : List X) (ys : List Y) (x : X)
    → Pairs R xs ys → Has xs x → (y : Y) × Has ys y × R x y
paired_to R [] [] x pairs has = absurd has
paired_to R [] (y ∷ ys) x pairs has = absurd has
paired_to R (z ∷ xs) [] x pairs has = absurd pairs
paired_to R (z ∷ xs) (y ∷ ys) x pairs (inl is) = (y, inl refl, subst (λ w. R w y) (sym is) pairs.0)
paired_to R (z ∷ xs) (y ∷ ys) x pairs (inr has) = let rest = paired_to R xs ys x pairs.1 has in
    (rest.0, inr rest.1, rest.2)

-- ---- what stands in a list

pub has_at : {X : Type 0} (xs : List X) (i : ℕ) (x : X) → i < length xs → x ≡ get_or xs i x
    → Has xs x
has_at [] i x some is = absurd (omega arith)
has_at (y ∷ xs) zero x some is = inl is
has_at (y ∷ xs) (suc i) x some is = inr (has_at xs i x (omega arith) is)

pub has_more : {X : Type 0} (xs : List X) (i : ℕ) (x y : X) → i < length xs → x ≡ get_or xs i x
    → Has (take (i + 1) xs) y → Has (take i xs) y ⊎ (y ≡ x)
has_more {X = X} xs i x y some is has =
    let more = rw (taken xs i x some is) at has in
    elim (has_append (take i xs) (x ∷ []) y more) [
      | inl before ↦ inl before
      | inr (inl here) ↦ inr here
      | inr (inr never) ↦ absurd never
    ]

pub has_still : {X : Type 0} (xs : List X) (i : ℕ) (x y : X) → i < length xs → x ≡ get_or xs i x
    → Has (take i xs) y → Has (take (i + 1) xs) y
has_still xs i x y some is has = rw (taken xs i x some is) (has_left (take i xs) (x ∷ []) y has)

pub has_now : {X : Type 0} (xs : List X) (i : ℕ) (x : X) → i < length xs → x ≡ get_or xs i x
    → Has (take (i + 1) xs) x
has_now xs i x some is = rw (taken xs i x some is) (has_right (take i xs) (x ∷ []) x (inl refl))

pub has_middle : {X : Type 0} (xs : List X) (x : X) (ys : List X) → Has (xs ++ x ∷ ys) x
has_middle [] x ys = inl refl
has_middle (z ∷ xs) x ys = inr (has_middle xs x ys)

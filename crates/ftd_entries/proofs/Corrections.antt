-- The rows of corrections: those of one total, of one account or of one day have the numbers 1, 2
-- and so on, so that a list of them by number is what the state keeps.
use Rattle.std.proofs.Common.{◌≡◌, ◌∙◌, inl, inr, refl, sym, ap, subst, ℕ, ◌+◌, ◌≤◌, ◌<◌, Bool}
use Rattle.std.proofs.Common.{true, false, List, [], ◌∷◌, ◌++◌, length, map, filter, arith}
use Rattle.std.proofs.lemmas.Bool.{cases_Bool}
use Rattle.std.proofs.lemmas.List.{length-append}
use Rattle.ftd_rules.specs.Lists.{Has, KeysRise}
use Rattle.ftd_rules.proofs.Rising.{sorted_is, next_do_not_fall}
use Rattle.ftd_rules.proofs.Members.{filter_in, filter_out}
use Rattle.ftd_store.specs.Lists.{Lists, Pairs}
use Rattle.ftd_entries.specs.Standing.{with_earlier}

-- a list of what is kept under one key, beside the list of all
pub record Picks {X V : Type 0} (own : List X → List V) (mine : X → Bool) (value : X → V)
    : Type 0 where
  pub none : own [] ≡ []
  pub one : (x : X) (xs : List X) → mine x ≡ true → own (x ∷ xs) ≡ value x ∷ own xs
  pub other : (x : X) (xs : List X) → mine x ≡ false → own (x ∷ xs) ≡ own xs

module _ {X V : Type 0} (own : List X → List V) (mine : X → Bool) (value : X → V)
    (picks : Picks own mine value) where
  pub picked_append : (xs ys : List X) → own (xs ++ ys) ≡ own xs ++ own ys
  picked_append [] ys = sym (ap (λ vs. vs ++ own ys) picks.none)
  picked_append (x ∷ xs) ys =
      elim (cases_Bool (mine x)) [
        | inl is ↦ picks.one x (xs ++ ys) is ∙ ap (λ vs. value x ∷ vs) (picked_append xs ys)
            ∙ sym (ap (λ vs. vs ++ own ys) (picks.one x xs is))
        | inr off ↦ picks.other x (xs ++ ys) off ∙ picked_append xs ys
            ∙ sym (ap (λ vs. vs ++ own ys) (picks.other x xs off))
      ]

  pub picked_more : (xs : List X) (x : X) → mine x ≡ true
      → own (xs ++ x ∷ []) ≡ own xs ++ value x ∷ []
  picked_more xs x is =
      picked_append xs (x ∷ [])
      ∙ ap (λ vs. own xs ++ vs) (picks.one x [] is ∙ ap (λ vs. value x ∷ vs) picks.none)

  pub picked_same : (xs : List X) (x : X) → mine x ≡ false → own (xs ++ x ∷ []) ≡ own xs
  picked_same xs x off =
      picked_append xs (x ∷ [])
      ∙ ap (λ vs. own xs ++ vs) (picks.other x [] off ∙ picks.none)
      ∙ nothing_more (own xs)
    where
      nothing_more : (vs : List V) → vs ++ [] ≡ vs
      nothing_more [] = refl
      nothing_more (v ∷ vs) = ap (λ ws. v ∷ ws) (nothing_more vs)

-- rows with the numbers after n
abbrev pub numbered_rows : {R V : Type 0} → (ℕ → V → R) → ℕ → List V → List R
numbered_rows as_row n [] = []
numbered_rows as_row n (v ∷ vs) = as_row (n + 1) v ∷ numbered_rows as_row (n + 1) vs

module _ {X V R : Type 0} (own : List X → List V) (mine : X → Bool) (value : X → V)
    (picks : Picks own mine value) (test : R → Bool) (row : List X × X → R) (as_row : ℕ → V → R)
    (tests : (b : List X) (x : X) → test (row (b, x)) ≡ mine x)
    (is_row : (b : List X) (x : X) → mine x ≡ true
    → row (b, x) ≡ as_row (length (own b) + 1) (value x)) where
  -- the rows that pass the test are those of what is kept under the key, numbered
  pub rows_are : (before xs : List X)
      → filter test (map row (with_earlier before xs))
      ≡ numbered_rows as_row (length (own before)) (own xs)
  rows_are before [] = sym (ap (numbered_rows as_row (length (own before))) picks.none)
  rows_are before (x ∷ xs) =
      let rest = rows_are (before ++ x ∷ []) xs in
      let later = map row (with_earlier (before ++ x ∷ []) xs) in
      elim (cases_Bool (mine x)) [
        | inl is ↦
            (let count : length (own (before ++ x ∷ [])) ≡ length (own before) + 1 =
            ap length (picked_more own mine value picks before x is)
            ∙ length-append (own before) (value x ∷ []) in
            filter_in test (row (before, x)) later (tests before x ∙ is)
            ∙ ap (λ r. r ∷ filter test later) (is_row before x is)
            ∙ ap (λ rs. as_row (length (own before) + 1) (value x) ∷ rs)
            (rest ∙ ap (λ n. numbered_rows as_row n (own xs)) count)
            ∙ sym (ap (numbered_rows as_row (length (own before))) (picks.one x xs is)))
        | inr off ↦
            (let count : length (own (before ++ x ∷ [])) ≡ length (own before) =
            ap length (picked_same own mine value picks before x off) in
            filter_out test (row (before, x)) later (tests before x ∙ off)
            ∙ rest
            ∙ ap (λ n. numbered_rows as_row n (own xs)) count
            ∙ sym (ap (numbered_rows as_row (length (own before))) (picks.other x xs off)))
      ]

-- ---- a list by number

module _ {V R L : Type 0} (as_row : ℕ → V → R) (number : R → ℕ) (IsRow : R → L → Type 0)
    (value_of : L → V) (number_is : (n : ℕ) (v : V) → number (as_row n v) ≡ n)
    (value_is : (n : ℕ) (v : V) (l : L) → IsRow (as_row n v) l → value_of l ≡ v) where
  above : (n : ℕ) (vs : List V) (r : R) → Has (numbered_rows as_row n vs) r → n < number r
  above n [] r has = absurd has
  above n (v ∷ vs) r (inl is) =
      let here : number r ≡ n + 1 = ap number is ∙ number_is (n + 1) v in omega arith
  above n (v ∷ vs) r (inr has) = let more = above (n + 1) vs r has in omega arith

  pub numbers_rise : (n : ℕ) (vs : List V) → KeysRise number (numbered_rows as_row n vs)
  numbers_rise n [] = tt
  numbers_rise n (v ∷ vs) = (
    (λ later has.
        (let here = number_is (n + 1) v in let more = above (n + 1) vs later has in omega arith)),
    numbers_rise (n + 1) vs,
  )

  pub values_are : (n : ℕ) (vs : List V) (ls : List L) → Pairs IsRow (numbered_rows as_row n vs) ls
      → map value_of ls ≡ vs
  values_are n [] [] pairs = refl
  values_are n [] (l ∷ ls) pairs = absurd pairs
  values_are n (v ∷ vs) [] pairs = absurd pairs
  values_are n (v ∷ vs) (l ∷ ls) pairs =
      ap (λ x. x ∷ map value_of ls) (value_is (n + 1) v l pairs.0)
      ∙ ap (λ xs. v ∷ xs) (values_are (n + 1) vs ls pairs.1)

  -- what is listed by number is what was numbered
  pub numbered_listed : (n : ℕ) (vs : List V) (ls : List L)
      → (Rise : R → R → Type 0) → ((a b : R) → Rise a b → number a ≤ number b)
      → Lists Rise IsRow (numbered_rows as_row n vs) ls → map value_of ls ≡ vs
  numbered_listed n vs ls Rise rises l =
      let sorted : l.ordered ≡ numbered_rows as_row n vs =
      sorted_is number (numbered_rows as_row n vs) l.ordered (numbers_rise n vs)
      (next_do_not_fall number l.ordered (λ k d less. rises _ _ (l.rise k d less))) l.same in
      values_are n vs ls (subst (λ rs. Pairs IsRow rs ls) sorted l.pairs)

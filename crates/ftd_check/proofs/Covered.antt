-- Rows of several accounts: those of each account, taken together, are all rows exactly where each
-- row is one of them.
use Rattle.std.proofs.Common.{◌≡◌, ◌∙◌, ◌+◌, ◌≤◌, ◌⊎◌, ℕ, inl, inr, refl, sym, subst}
use Rattle.std.proofs.Common.{Bool, true, false, cond, List, [], ◌∷◌, length, filter, arith}
use Rattle.std.specs.Prelude.{bytes_eq}
use Rattle.std.specs.List.{sum_by}
use Rattle.std.proofs.lemmas.Bool.{true≢false}
use Rattle.std.proofs.lemmas.List.Sums.{sum_by-cons}
use Rattle.ftd_days.proofs.Spelling.{same_text}
use Rattle.ftd_rules.specs.Lists.{Has}
use Rattle.ftd_machine.proofs.Adding.{own_name}
use Rattle.ftd_machine.specs.Sound.{AreDistinct}

abbrev pub text_itself : List ℕ → List ℕ
text_itself name = name

module _ {R : Type 0} (name_of : R → List ℕ) where
  -- a row is of the account of the name
  abbrev pub is_row_of : List ℕ → R → Bool
  is_row_of name row = bytes_eq (name_of row) name

  -- how many of the rows are of the account of the name
  abbrev pub count_of : List R → List ℕ → ℕ
  count_of rows name = length (filter (is_row_of name) rows)

  -- how many of the names are that of the row's account
  abbrev names_of : R → List (List ℕ) → ℕ
  names_of row names = sum_by (λ name. cond (is_row_of name row) 1 0) names

  -- one row more
  count_more : (row : R) (rows : List R) (name : List ℕ)
      → count_of (row ∷ rows) name ≡ cond (is_row_of name row) 1 0 + count_of rows name
  count_more row rows name = by (is_row_of name row) (filter (is_row_of name) rows)
    where
      by : (b : Bool) (kept : List R)
          → length (cond b (row ∷ kept) kept) ≡ cond b 1 0 + length kept
      by true kept = omega arith
      by false kept = omega arith

  sum_more : (row : R) (rows : List R) (names : List (List ℕ))
      → sum_by (count_of (row ∷ rows)) names ≡ names_of row names + sum_by (count_of rows) names
  sum_more row rows [] = refl
  sum_more row rows (name ∷ names) =
      let one = sum_by-cons (count_of (row ∷ rows)) name names in
      let two = sum_by-cons (λ n. cond (is_row_of n row) 1 0) name names in
      let three = sum_by-cons (count_of rows) name names in
      let here = count_more row rows name in
      let more = sum_more row rows names in
      omega arith

  -- no name is that of the row's account
  not_named : (row : R) (names : List (List ℕ)) → (Has names (name_of row) → ⊥)
      → names_of row names ≡ 0
  not_named row [] none = refl
  not_named row (name ∷ names) none =
      sum_by-cons (λ n. cond (is_row_of n row) 1 0) name names
      ∙ by (is_row_of name row) refl (not_named row names (λ has. none (inr has)))
    where
      by : (b : Bool) → is_row_of name row ≡ b → names_of row names ≡ 0
          → cond b 1 0 + names_of row names ≡ 0
      by true is rest = absurd (none (inl (same_text (name_of row) name is)))
      by false is rest = omega arith

  -- exactly one is, where the names stand once
  named_once : (row : R) (names : List (List ℕ)) → AreDistinct text_itself names
      → Has names (name_of row) → names_of row names ≡ 1
  named_once row [] once has = absurd has
  named_once row (name ∷ names) once has =
      sum_by-cons (λ n. cond (is_row_of n row) 1 0) name names
      ∙ by (is_row_of name row) refl has (not_named row names) (named_once row names once.1)
    where
      by : (b : Bool) → is_row_of name row ≡ b → Has (name ∷ names) (name_of row)
          → ((Has names (name_of row) → ⊥) → names_of row names ≡ 0)
          → (Has names (name_of row) → names_of row names ≡ 1)
          → cond b 1 0 + names_of row names ≡ 1
      by true is has' zero one =
          let same = same_text (name_of row) name is in
          let none = zero (λ later. once.0 (name_of row) later same) in
          omega arith
      by false is (inl here) zero one = absurd (true≢false (sym (own_name (name_of row))
          ∙ subst (λ n. bytes_eq (name_of row) n ≡ false) (sym here) is))
      by false is (inr later) zero one = let rest = one later in omega arith

  named_or_not : (row : R) (names : List (List ℕ)) → AreDistinct text_itself names
      → (Has names (name_of row) × (names_of row names ≡ 1)) ⊎ (names_of row names ≡ 0)
  named_or_not row [] once = inr refl
  named_or_not row (name ∷ names) once = by (is_row_of name row) refl
      (named_or_not row names once.1)
    where
      by : (b : Bool) → is_row_of name row ≡ b
          → (Has names (name_of row) × (names_of row names ≡ 1)) ⊎ (names_of row names ≡ 0)
          → (Has (name ∷ names) (name_of row) × (names_of row (name ∷ names) ≡ 1))
          ⊎ (names_of row (name ∷ names) ≡ 0)
      by true is rest =
          let here = inl (same_text (name_of row) name is) in
          inl (here, named_once row (name ∷ names) once here)
      by false is (inl there) =
          inl (inr there.0, named_once row (name ∷ names) once (inr there.0))
      by false is (inr none) = inr
          (sum_by-cons (λ n. cond (is_row_of n row) 1 0) name names ∙ rw is (omega arith))

  -- of no rows none is of an account
  nothing : (names : List (List ℕ)) → sum_by (count_of []) names ≡ 0
  nothing [] = refl
  nothing (name ∷ names) =
      let one = sum_by-cons (count_of []) name names in
      let more = nothing names in
      let none : count_of [] name ≡ 0 = refl in
      omega arith

  -- never more than there are rows
  at_most : (names : List (List ℕ)) → AreDistinct text_itself names → (rows : List R)
      → sum_by (count_of rows) names ≤ length rows
  at_most names once [] = let none = nothing names in omega arith
  at_most names once (row ∷ rows) =
      let sum = sum_more row rows names in
      let rest = at_most names once rows in
      elim (named_or_not row names once) [
        | inl one ↦ (let is = one.1 in omega arith)
        | inr none ↦ omega arith
      ]

  -- where as many rows are of the accounts as there are, each is of one of them
  pub covered : (names : List (List ℕ)) → AreDistinct text_itself names → (rows : List R)
      → sum_by (count_of rows) names ≡ length rows → (row : R) → Has rows row
      → Has names (name_of row)
  covered names once [] all row has = absurd has
  covered names once (first ∷ rows) all row has =
      let sum = sum_more first rows names in
      let most = at_most names once rows in
      let later = λ (rest : sum_by (count_of rows) names ≡ length rows). covered names once rows
      rest row in
      elim (named_or_not first names once) [
        | inl one ↦ (let is = one.1 in
            let rest : sum_by (count_of rows) names ≡ length rows = omega arith in
            by one.0 (later rest) has)
        | inr none ↦ absurd (omega arith)
      ]
    where
      by : Has names (name_of first) → (Has rows row → Has names (name_of row))
          → Has (first ∷ rows) row → Has names (name_of row)
      by here rest (inl is) = subst (λ r. Has names (name_of r)) (sym is) here
      by here rest (inr there) = rest there

  -- and the other way round
  pub covering : (names : List (List ℕ)) → AreDistinct text_itself names → (rows : List R)
      → ((row : R) → Has rows row → Has names (name_of row))
      → sum_by (count_of rows) names ≡ length rows
  covering names once [] each = nothing names
  covering names once (row ∷ rows) each =
      let sum = sum_more row rows names in
      let one = named_once row names once (each row (inl refl)) in
      let rest = covering names once rows (λ r has. each r (inr has)) in
      omega arith

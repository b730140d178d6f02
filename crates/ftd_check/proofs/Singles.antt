-- One row of each account.
use Rattle.std.proofs.Common.{◌≡◌, ◌∙◌, ◌++◌, ◌⊎◌, ℕ, inl, inr, refl, sym, ap, subst, Bool, true}
use Rattle.std.proofs.Common.{false, List, [], ◌∷◌, map, filter}
use Rattle.std.specs.Prelude.{bytes_eq, not}
use Rattle.std.specs.List.Sorted.{IsPermutation}
use Rattle.std.proofs.lemmas.Bool.{cases_Bool, true≢false}
use Rattle.std.proofs.lemmas.List.Sorted.{IsPermutation-filter_both, IsPermutation-trans}
use Rattle.std.proofs.lemmas.List.Sorted.{IsPermutation-cons, IsPermutation-refl}
use Rattle.ftd_days.proofs.Spelling.{same_text}
use Rattle.ftd_rules.specs.Lists.{Has}
use Rattle.ftd_rules.proofs.Members.{filter_in, filter_out}
use Rattle.ftd_machine.proofs.Adding.{own_name}
use Rattle.ftd_machine.proofs.Members.{has_filtered}
use Rattle.ftd_machine.specs.Sound.{AreDistinct}
use Rattle.ftd_check.proofs.Covered.{is_row_of, text_itself}

-- of those that pass, those that pass another test which asks for more
pub filter_twice : {X : Type 0} (p q : X → Bool) → ((x : X) → p x ≡ true → q x ≡ true)
    → (xs : List X)
    → filter p (filter q xs) ≡ filter p xs
filter_twice p q more [] = refl
filter_twice {X = X} p q more (x ∷ xs) =
    by (cases_Bool (p x)) (cases_Bool (q x)) (filter_twice p q more xs)
  where
    by : (p x ≡ true) ⊎ (p x ≡ false) → (q x ≡ true) ⊎ (q x ≡ false)
        → filter p (filter q xs) ≡ filter p xs → filter p (filter q (x ∷ xs)) ≡ filter p (x ∷ xs)
    by (inl a) (inl b) rest =
        ap (filter p) (filter_in q x xs b) ∙ filter_in p x (filter q xs) a
        ∙ ap (λ (ys : List X). x ∷ ys) rest ∙ sym (filter_in p x xs a)
    by (inl a) (inr b) rest = absurd (true≢false (sym (more x a) ∙ b))
    by (inr a) (inl b) rest =
        ap (filter p) (filter_in q x xs b) ∙ filter_out p x (filter q xs) a ∙ rest
        ∙ sym (filter_out p x xs a)
    by (inr a) (inr b) rest = ap (filter p) (filter_out q x xs b) ∙ rest ∙ sym (filter_out p x xs a)

module _ {R : Type 0} (name_of : R → List ℕ) (row_for : List ℕ → R) where
  abbrev is_other : List ℕ → R → Bool
  is_other name r = not (is_row_of name_of name r)

  other_of : (name : List ℕ) (b : Bool) → not b ≡ true → b ≡ false
  other_of name true e = absurd (true≢false (sym e))
  other_of name false e = refl

  -- where each account has exactly its row, the rows are these in some order
  pub single_rows : (names : List (List ℕ)) → AreDistinct text_itself names → (rows : List R)
      → ((r : R) → Has rows r → Has names (name_of r))
      → ((name : List ℕ) → Has names name
      → filter (is_row_of name_of name) rows ≡ row_for name ∷ [])
      → IsPermutation rows (map row_for names)
  single_rows [] once [] covered single = IsPermutation-refl []
  single_rows [] once (r ∷ rows) covered single = absurd (covered r (inl refl))
  single_rows (name ∷ names) once rows covered single =
      let p = is_row_of name_of name in
      let others = filter (is_other name) rows in
      let P : List R → List R → Type 0 = IsPermutation in
      let split : P rows (row_for name ∷ others) =
      subst (λ (own : List R). P rows (own ++ others)) (single name (inl refl))
      (IsPermutation-filter_both p (is_other name) (λ r. refl) rows) in
      let rest = single_rows names once.1 others
      (λ r has.
      let there = has_filtered (is_other name) rows r has in
      let not_here = other_of name (p r) there.1 in
      elim (covered r there.0) [
        | inl is ↦ absurd (true≢false (sym (own_name (name_of r))
            ∙ ap (λ (n : List ℕ). bytes_eq (name_of r) n) is ∙ not_here))
        | inr later ↦ later
      ])
      (λ n has. filter_twice (is_row_of name_of n) (is_other name)
      (λ r is. apart name n r is (λ same. once.0 n has same)) rows ∙ single n (inr has)) in
      IsPermutation-trans rows (row_for name ∷ others) (row_for name ∷ map row_for names) split
      (IsPermutation-cons (row_for name) others (map row_for names) rest)
    where
      apart : (name' n : List ℕ) (r : R) → is_row_of name_of n r ≡ true → (n ≡ name' → ⊥)
          → is_other name' r ≡ true
      apart name' n r is not_same = by (is_row_of name_of name' r) refl
        where
          by : (b : Bool) → is_row_of name_of name' r ≡ b → not b ≡ true
          by true same = absurd (not_same (sym (same_text (name_of r) n is)
              ∙ same_text (name_of r) name' same))
          by false other = refl

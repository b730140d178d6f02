-- One row that gets other terms, in the place of one that is taken out and added.
use Rattle.std.proofs.Common.{◌≡◌, ◌∙◌, ℕ, inl, inr, List, [], ◌∷◌, ◌++◌, map, length, Bool, true}
use Rattle.std.proofs.Common.{false, not, ◌&&◌, refl, sym, ap, subst, arith}
use Rattle.std.specs.Prelude.{filter, bytes_eq, int_le}
use Rattle.std.specs.Ordering.{int_eq}
use Rattle.std.specs.List.Sorted.{IsPermutation}
use Rattle.std.proofs.lemmas.Bool.{cases_Bool, false≢true, and_parts}
use Rattle.std.proofs.lemmas.Bool.Decides.{Decides-int_eq}
use Rattle.std.proofs.lemmas.List.Sorted.{IsPermutation-refl, IsPermutation-cons, IsPermutation-sym}
use Rattle.std.proofs.lemmas.List.Sorted.{IsPermutation-to_front, length_permutation}
use Rattle.ftd_rules.specs.declared.Obligation.{Obligation}
use Rattle.ftd_rules.specs.Lists.{Has}
use Rattle.ftd_rules.proofs.Rising.{has_permuted}
use Rattle.ftd_sql.specs.Kept.{changed}
use Rattle.ftd_sql.specs.Rows.{ObligationRow}
use Rattle.ftd_sql.specs.Tests.{is_obligation, is_obligation_between, with_terms}
use Rattle.ftd_store.specs.Cells.{day_number}
use Rattle.ftd_store.specs.Rows.{obligation_row}
use Rattle.ftd_store.proofs.Same.{same_int}
use Rattle.ftd_machine.proofs.Adding.{own_name}
use Rattle.ftd_machine.proofs.Members.{has_filtered}
use Rattle.ftd_sql.specs.Standing.{Tables}
use Rattle.ftd_sql.specs.declared.TableName.TheVariants.{Obligations}
use Rattle.ftd_buckets.specs.declared.Patch.{Patch}
use Rattle.ftd_store.specs.Changes.{with_obligation, with_obligations}
use Rattle.ftd_repairs.specs.Replaced.{AreBetween}
use Rattle.ftd_repairs.specs.Rescheduled.{PutsRows}

-- a permutation of one item
one_only : {X : Type 0} (xs : List X) (x : X) → IsPermutation xs (x ∷ []) → xs ≡ x ∷ []
one_only xs x moved = by xs (length_permutation xs (x ∷ []) moved)
    (has_permuted (x ∷ []) xs (IsPermutation-sym xs (x ∷ []) moved))
  where
    by : {X : Type 0} {x : X} (xs : List X) → length (x ∷ []) ≡ length xs
        → ((y : X) → Has xs y → Has (x ∷ []) y) → xs ≡ x ∷ []
    by [] long has = absurd (omega arith)
    by (y ∷ []) long has = elim (has y (inl refl)) [
      | inl is ↦ ap (λ z. z ∷ []) is
      | inr never ↦ absurd never
    ]
    by (y ∷ z ∷ xs) long has = absurd (omega arith)

-- ---- rows of which one alone goes, and is changed

module _ {X : Type 0} (goes is : X → Bool) (f : X → X) (inside : (x : X) → goes x ≡ false
    → is x ≡ false) where
  -- none goes, and so none is changed
  none_changed : (xs : List X) → filter goes xs ≡ [] → map (changed is f) xs ≡ xs
  none_changed [] none = refl
  none_changed (x ∷ xs) none =
      elim (cases_Bool (goes x)) [
        | inl on ↦ (let some : x ∷ filter goes xs ≡ [] = rw on at none in absurd cc)
        | inr off ↦ (let rest = none_changed xs (rw off at none) in
            rw (inside x off) (ap (λ ys. x ∷ ys) rest))
      ]

  none_gone : (xs : List X) → filter goes xs ≡ [] → filter (λ x. not (goes x)) xs ≡ xs
  none_gone [] none = refl
  none_gone (x ∷ xs) none =
      elim (cases_Bool (goes x)) [
        | inl on ↦ (let some : x ∷ filter goes xs ≡ [] = rw on at none in absurd cc)
        | inr off ↦ (let rest = none_gone xs (rw off at none) in rw off (ap (λ ys. x ∷ ys) rest))
      ]

  -- the changed rows are those that stay, and the one that was changed
  pub one_changed : (xs : List X) (x : X) → filter goes xs ≡ x ∷ [] → is x ≡ true
      → IsPermutation (map (changed is f) xs) (filter (λ y. not (goes y)) xs ++ f x ∷ [])
  one_changed [] x one its = absurd cc
  one_changed (y ∷ ys) x one its =
      elim (cases_Bool (goes y)) [
        | inl on ↦
            (let cut : y ∷ filter goes ys ≡ x ∷ [] = rw on at one in
            let same : y ≡ x = cc in
            let none : filter goes ys ≡ [] = cc in
            let own : is y ≡ true = ap is same ∙ its in
            let left : map (changed is f) (y ∷ ys) ≡ f x ∷ ys =
            rw own (rw same (ap (λ zs. f x ∷ zs) (none_changed ys none))) in
            let right : filter (λ z. not (goes z)) (y ∷ ys) ≡ ys = rw on (none_gone ys none) in
            rw (left, right) (IsPermutation-sym (ys ++ f x ∷ []) (f x ∷ ys)
            (IsPermutation-to_front ys (f x))))
        | inr off ↦
            (let rest = one_changed ys x (rw off at one) its in
            let left : map (changed is f) (y ∷ ys) ≡ y ∷ map (changed is f) ys =
            rw (inside y off) refl in
            let right : filter (λ z. not (goes z)) (y ∷ ys) ≡ y ∷ filter (λ z. not (goes z)) ys =
            rw off refl in
            rw (left, right) (IsPermutation-cons y (map (changed is f) ys)
            (filter (λ z. not (goes z)) ys ++ f x ∷ []) rest))
      ]

-- ---- an account's rows of which one alone is between two days

module _ (account : List ℕ) (was row : Obligation) (same : was.first ≡ row.first) where
  abbrev old_row : ObligationRow
  old_row = obligation_row account was

  abbrev new_row : ObligationRow
  new_row = obligation_row account row

  abbrev is_own : ObligationRow → Bool
  is_own = is_obligation account new_row.first

  -- the row has its account and its first day
  own_is : is_own old_row ≡ true
  own_is = rw (
    own_name account,
    (Decides-int_eq (day_number was.first) (day_number row.first)).1
        (ap day_number same),
  ) refl

  made_is : with_terms new_row old_row ≡ new_row
  made_is = ap (λ (first : ℕ). record new_row { first = day_number first }) same

  module _ (from to : ℕ) where
    abbrev is_between : ObligationRow → Bool
    is_between = is_obligation_between account (day_number from) (day_number to)

    -- each row of the account and that first day is between the days, if that one is
    own_between : is_between old_row ≡ true → (r : ObligationRow) → is_between r ≡ false
        → is_own r ≡ false
    own_between on r off =
        elim (cases_Bool (is_own r)) [
          | inr none ↦ none
          | inl own ↦
              (let k = and_parts (bytes_eq r.account account) (int_eq r.first new_row.first) own in
              let first : r.first ≡ old_row.first = same_int r.first new_row.first k.1
              ∙ ap day_number (sym same) in
              let low = and_parts (bytes_eq account account)
              (int_le (day_number from) old_row.first && int_le old_row.first (day_number to)) on in
              let there : is_between r ≡ true = rw (k.0, first) low.1 in
              absurd (false≢true (sym off ∙ there)))
        ]

    pub one_put : (rows : List ObligationRow) → IsPermutation (filter is_between rows)
        (old_row ∷ [])
        → IsPermutation (map (changed is_own (with_terms new_row)) rows)
        (filter (λ o. not (is_between o)) rows ++ new_row ∷ [])
    one_put rows moved =
        let one : filter is_between rows ≡ old_row ∷ [] = one_only (filter is_between rows) old_row
        moved in
        let on : is_between old_row ≡ true =
        (has_filtered is_between rows old_row (subst (λ (l : List ObligationRow). Has l old_row)
        (sym one) (inl refl))).1 in
        subst (λ (r : ObligationRow). IsPermutation (map (changed is_own (with_terms new_row)) rows)
        (filter (λ o. not (is_between o)) rows ++ r ∷ [])) made_is
        (one_changed is_between is_own (with_terms new_row) (own_between on) rows old_row one
        own_is)

-- the account's one row between the days of the patch gets the terms of the patch's one row
pub changed_puts : (account : List ℕ) (gone : List Obligation) (patch : Patch)
    (was row : Obligation) (t : Tables) → gone ≡ was ∷ [] → patch.rows ≡ row ∷ []
    → was.first ≡ row.first
    → AreBetween account patch.from patch.to gone t → PutsRows account patch t
    (with_obligation account row t)
changed_puts account gone patch was row t one comes same between = record {
  are =
      subst (λ (rows : List Obligation). IsPermutation (with_obligation account row t Obligations)
      (with_obligations account patch.from patch.to rows t Obligations)) (sym comes)
      (one_put account was row same patch.from patch.to (t Obligations)
      (subst (λ (rows : List Obligation). IsPermutation
      (filter (is_obligation_between account (day_number patch.from) (day_number patch.to))
      (t Obligations)) (map (obligation_row account) rows)) one between.are));
  only = λ n. refl;
}

-- the account's rows between the days of the patch are taken out, and those of the patch added
pub replaced_puts : (account : List ℕ) (patch : Patch) (t : Tables) → PutsRows account patch t
    (with_obligations account patch.from patch.to patch.rows t)
replaced_puts account patch t =
    record {
      are =
          IsPermutation-refl
          (with_obligations account patch.from patch.to patch.rows t Obligations);
      only = λ n. refl;
    }

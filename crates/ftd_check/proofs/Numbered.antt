-- Rows whose numbers count those before them of the same account: those of each account decide.
use Rattle.std.proofs.Common.{◌≡◌, ◌∙◌, ◌++◌, ℕ, refl, sym, ap, Bool, true, false, List, []}
use Rattle.std.proofs.Common.{◌∷◌, map, filter, append-nil, ◌⊎◌, inl, inr}
use Rattle.std.specs.Prelude.{bytes_eq}
use Rattle.std.proofs.lemmas.Bool.{cases_Bool}
use Rattle.std.proofs.lemmas.List.Elements.{filter-append}
use Rattle.ftd_days.proofs.Spelling.{same_text}
use Rattle.ftd_rules.proofs.Members.{filter_in, filter_out}
use Rattle.ftd_machine.proofs.Adding.{own_name}
use Rattle.ftd_entries.specs.Standing.{with_earlier}

module _ {E R : Type 0} (name_of : E → List ℕ) (row_name : R → List ℕ) (row : List E × E → R)
    (named : (before : List E) (e : E) → row_name (row (before, e)) ≡ name_of e)
    (own_alone : (before : List E) (e : E)
    → row (filter (λ d. bytes_eq (name_of d) (name_of e)) before, e) ≡ row (before, e)) where
  abbrev pub is_of_name : List ℕ → E → Bool
  is_of_name name e = bytes_eq (name_of e) name

  abbrev pub is_row_named : List ℕ → R → Bool
  is_row_named name r = bytes_eq (row_name r) name

  abbrev pub rows_from : List E → List E → List R
  rows_from before es = map row (with_earlier before es)

  -- one more behind those of an account
  behind : (name : List ℕ) (before : List E) (e : E) → is_of_name name e ≡ true
      → filter (is_of_name name) (before ++ e ∷ []) ≡ filter (is_of_name name) before ++ e ∷ []
  behind name before e is = filter-append (is_of_name name) before (e ∷ [])
      ∙ ap (λ (more : List E). filter (is_of_name name) before ++ more)
      (filter_in (is_of_name name) e [] is)

  not_behind : (name : List ℕ) (before : List E) (e : E) → is_of_name name e ≡ false
      → filter (is_of_name name) (before ++ e ∷ []) ≡ filter (is_of_name name) before
  not_behind name before e not = filter-append (is_of_name name) before (e ∷ [])
      ∙ ap (λ (more : List E). filter (is_of_name name) before ++ more)
      (filter_out (is_of_name name) e [] not) ∙ append-nil (filter (is_of_name name) before)

  -- its row rests on those of its account
  on_own : (name : List ℕ) (before : List E) (e : E) → is_of_name name e ≡ true
      → row (filter (is_of_name name) before, e) ≡ row (before, e)
  on_own name before e is =
      ap (λ (n : List ℕ). row (filter (is_of_name n) before, e))
      (sym (same_text (name_of e) name is))
      ∙ own_alone before e

  row_is : (name : List ℕ) (before : List E) (e : E) (b : Bool) → is_of_name name e ≡ b
      → is_row_named name (row (before, e)) ≡ b
  row_is name before e b is = ap (λ (n : List ℕ). bytes_eq n name) (named before e) ∙ is

  -- ---- the rows of one account are those of its entries

  own_rows : (name : List ℕ) (before es : List E)
      → filter (is_row_named name) (rows_from before es)
      ≡ rows_from (filter (is_of_name name) before) (filter (is_of_name name) es)
  own_rows name before [] = refl
  own_rows name before (e ∷ es) =
      by (cases_Bool (is_of_name name e)) (own_rows name (before ++ e ∷ []) es)
    where
      by : (is_of_name name e ≡ true) ⊎ (is_of_name name e ≡ false)
          → filter (is_row_named name) (rows_from (before ++ e ∷ []) es)
          ≡ rows_from (filter (is_of_name name) (before ++ e ∷ [])) (filter (is_of_name name) es)
          → filter (is_row_named name) (rows_from before (e ∷ es))
          ≡ rows_from (filter (is_of_name name) before) (filter (is_of_name name) (e ∷ es))
      by (inl is) rest =
          filter_in (is_row_named name) (row (before, e)) (rows_from (before ++ e ∷ []) es)
          (row_is name before e true is)
          ∙ ap (λ (more : List R). row (before, e) ∷ more) (rest
          ∙ ap (λ (earlier : List E). rows_from earlier (filter (is_of_name name) es))
          (behind name before e is))
          ∙ ap (λ (r : R). r ∷ rows_from (filter (is_of_name name) before ++ e ∷ [])
          (filter (is_of_name name) es)) (sym (on_own name before e is))
          ∙ ap (λ (ds : List E). rows_from (filter (is_of_name name) before) ds)
          (sym (filter_in (is_of_name name) e es is))
      by (inr not) rest =
          filter_out (is_row_named name) (row (before, e)) (rows_from (before ++ e ∷ []) es)
          (row_is name before e false not) ∙ rest
          ∙ ap (λ (earlier : List E). rows_from earlier (filter (is_of_name name) es))
          (not_behind name before e not)
          ∙ ap (λ (ds : List E). rows_from (filter (is_of_name name) before) ds)
          (sym (filter_out (is_of_name name) e es not))

  pub rows_of_name : (name : List ℕ) (es : List E)
      → filter (is_row_named name) (rows_from [] es) ≡ rows_from [] (filter (is_of_name name) es)
  rows_of_name name es = own_rows name [] es

  -- ---- and the other way round

  -- of each account the rows are those of its entries
  abbrev AreOwn : List E → List E → List R → Type 0
  AreOwn before es rows = (name : List ℕ) → filter (is_row_named name) rows
      ≡ rows_from (filter (is_of_name name) before) (filter (is_of_name name) es)

  module _ (before : List E) (e : E) (es : List E) (r : R) (rows : List R)
      (is_named : row_name r ≡ name_of e) (own : AreOwn before (e ∷ es) (r ∷ rows)) where
    here : (name : List ℕ) → is_of_name name e ≡ true
        → r ∷ filter (is_row_named name) rows
        ≡ row (filter (is_of_name name) before, e)
        ∷ rows_from (filter (is_of_name name) before ++ e ∷ []) (filter (is_of_name name) es)
    here name is =
        sym (filter_in (is_row_named name) r rows (ap (λ (n : List ℕ). bytes_eq n name) is_named
        ∙ is))
        ∙ own name
        ∙ ap (λ (ds : List E). rows_from (filter (is_of_name name) before) ds)
        (filter_in (is_of_name name) e es is)

    first_is : r ≡ row (before, e)
    first_is =
        let whole = here (name_of e) (own_name (name_of e)) in
        let head : r ≡ row (filter (is_of_name (name_of e)) before, e) = cc in
        head ∙ on_own (name_of e) before e (own_name (name_of e))

    rest_own : AreOwn (before ++ e ∷ []) es rows
    rest_own name = elim (cases_Bool (is_of_name name e)) [
      | inl is ↦ (let whole = here name is in
          let tail : filter (is_row_named name) rows
          ≡ rows_from (filter (is_of_name name) before ++ e ∷ []) (filter (is_of_name name) es)
          = cc in
          tail ∙ ap (λ (earlier : List E). rows_from earlier (filter (is_of_name name) es))
          (sym (behind name before e is)))
      | inr not ↦ sym (filter_out (is_row_named name) r rows
          (ap (λ (n : List ℕ). bytes_eq n name) is_named ∙ not))
          ∙ own name
          ∙ ap (λ (ds : List E). rows_from (filter (is_of_name name) before) ds)
          (filter_out (is_of_name name) e es not)
          ∙ ap (λ (earlier : List E). rows_from earlier (filter (is_of_name name) es))
          (sym (not_behind name before e not))
    ]

  rows_are : (before es : List E) (rows : List R) → map row_name rows ≡ map name_of es
      → AreOwn before es rows → rows ≡ rows_from before es
  rows_are before [] [] names own = refl
  rows_are before [] (r ∷ rows) names own = absurd cc
  rows_are before (e ∷ es) [] names own = absurd cc
  rows_are before (e ∷ es) (r ∷ rows) names own =
      let is_named : row_name r ≡ name_of e = cc in
      let others : map row_name rows ≡ map name_of es = cc in
      let rest = rows_are (before ++ e ∷ []) es rows others
      (rest_own before e es r rows is_named own) in
      ap (λ (x : R). x ∷ rows) (first_is before e es r rows is_named own)
      ∙ ap (λ (more : List R). row (before, e) ∷ more) rest

  -- rows are those of these entries, where they have their names and those of each account are
  pub rows_by_name : (es : List E) (rows : List R) → map row_name rows ≡ map name_of es
      → ((name : List ℕ) → filter (is_row_named name) rows
      ≡ rows_from [] (filter (is_of_name name) es)) → rows ≡ rows_from [] es
  rows_by_name es rows names own = rows_are [] es rows names own

-- Rows of several accounts are those of the entries of all of them, where those of each account are
-- those of its own.
use Rattle.std.proofs.Common.{◌≡◌, ◌∙◌, ◌++◌, ◌⊎◌, ℕ, inl, inr, refl, sym, ap, subst, Bool, true}
use Rattle.std.proofs.Common.{false, List, [], ◌∷◌, map, filter}
use Rattle.std.specs.Prelude.{bytes_eq}
use Rattle.std.proofs.lemmas.Bool.{cases_Bool, true≢false}
use Rattle.ftd_days.proofs.Spelling.{same_text}
use Rattle.ftd_rules.specs.Lists.{Has}
use Rattle.ftd_rules.proofs.Members.{filter_in, filter_out, has_kept, has_mapped, mapped_has}
use Rattle.ftd_machine.proofs.Adding.{own_name}
use Rattle.ftd_machine.proofs.Found.{filter_none}
use Rattle.ftd_store.specs.Lists.{Pairs}
use Rattle.ftd_entries.specs.Standing.{with_earlier}
use Rattle.ftd_check.proofs.Numbered.{is_of_name, is_row_named, rows_from, rows_by_name}

-- something that stands so to each
pub paired : {X Y : Type 0} (P : X → Y → Type 0) (xs : List X)
    → ((x : X) → Has xs x → (y : Y) × P x y) → (ys : List Y) × Pairs P xs ys
paired P [] each = ([], tt)
paired P (x ∷ xs) each =
    let here = each x (inl refl) in
    let rest = paired P xs (λ y has. each y (inr has)) in
    (here.0 ∷ rest.0, (here.1, rest.1))

-- what a list is made of, where each of it is made of something
pub images : {X Y : Type 0} (f : Y → X) (xs : List X)
    → ((x : X) → Has xs x → (y : Y) × (x ≡ f y)) → (ys : List Y) × (xs ≡ map f ys)
images f [] each = ([], refl)
images {X = X} f (x ∷ xs) each =
    let here = each x (inl refl) in
    let rest = images f xs (λ y has. each y (inr has)) in
    (here.0 ∷ rest.0, ap (λ (z : X). z ∷ xs) here.1 ∙ ap (λ (zs : List X). f here.0 ∷ zs) rest.1)

-- a name is one of these, or it is not
pub has_or_not : (names : List (List ℕ)) (name : List ℕ)
    → Has names name ⊎ (Has names name → ⊥)
has_or_not [] name = inr (λ has. has)
has_or_not (n ∷ names) name = by (bytes_eq n name) refl (has_or_not names name)
  where
    by : (b : Bool) → bytes_eq n name ≡ b → Has names name ⊎ (Has names name → ⊥)
        → Has (n ∷ names) name ⊎ (Has (n ∷ names) name → ⊥)
    by true is rest = inl (inl (sym (same_text n name is)))
    by false not (inl there) = inl (inr there)
    by false not (inr none) = inr (λ has. elim has [
      | inl is ↦ true≢false (sym (own_name n)
          ∙ ap (λ (m : List ℕ). bytes_eq n m) (sym is) ∙ not)
      | inr later ↦ none later
    ])

-- rows that rest on nothing before them
pub plain_rows : {E R : Type 0} (f : E → R) (before es : List E)
    → map (λ (p : List E × E). f p.1) (with_earlier before es) ≡ map f es
plain_rows f before [] = refl
plain_rows {R = R} f before (e ∷ es) =
    ap (λ (more : List R). f e ∷ more) (plain_rows f (before ++ e ∷ []) es)

module _ {E R : Type 0} (name_of : E → List ℕ) (row_name : R → List ℕ) (row : List E × E → R)
    (named : (before : List E) (e : E) → row_name (row (before, e)) ≡ name_of e)
    (own_alone : (before : List E) (e : E)
    → row (filter (λ d. bytes_eq (name_of d) (name_of e)) before, e) ≡ row (before, e))
    (one : (before earlier : List E) (e d : E) → row (before, e) ≡ row (earlier, d) → e ≡ d) where
  -- the row is one of the entry, whatever comes before it
  abbrev IsRowOf : R → E → Type 0
  IsRowOf r e = (before : List E) × (r ≡ row (before, e))

  -- the rows of the account are those of these entries of it
  pub record AreOwn (rows : List R) (name : List ℕ) (own : List E) : Type 0 where
    pub each : (e : E) → Has own e → name_of e ≡ name
    pub are : filter (is_row_named name_of row_name row named own_alone name) rows
        ≡ rows_from name_of row_name row named own_alone [] own

  abbrev of : List ℕ → E → Bool
  of = is_of_name name_of row_name row named own_alone

  abbrev row_of : List ℕ → R → Bool
  row_of = is_row_named name_of row_name row named own_alone

  abbrev from : List E → List E → List R
  from = rows_from name_of row_name row named own_alone

  -- a row of those is one of its entry
  row_from : (before own : List E) (r : R) → Has (from before own) r → (e : E) × IsRowOf r e
  row_from before [] r has = absurd has
  row_from before (e ∷ own) r (inl is) = (e, (before, is))
  row_from before (e ∷ own) r (inr has) = row_from (before ++ e ∷ []) own r has

  -- the names of rows and their entries
  row_named : (r : R) (e : E) → IsRowOf r e → row_name r ≡ name_of e
  row_named r e is = ap row_name is.1 ∙ named is.0 e

  names_same : (rows : List R) (es : List E) → Pairs IsRowOf rows es
      → map row_name rows ≡ map name_of es
  names_same [] [] pairs = refl
  names_same [] (e ∷ es) pairs = absurd pairs
  names_same (r ∷ rows) [] pairs = absurd pairs
  names_same (r ∷ rows) (e ∷ es) pairs =
      ap (λ (n : List ℕ). n ∷ map row_name rows) (row_named r e pairs.0)
      ∙ ap (λ (ns : List (List ℕ)). name_of e ∷ ns) (names_same rows es pairs.1)

  -- those of one account go pair by pair too
  own_pairs : (name : List ℕ) (rows : List R) (es : List E) → Pairs IsRowOf rows es
      → Pairs IsRowOf (filter (row_of name) rows) (filter (of name) es)
  own_pairs name [] [] pairs = tt
  own_pairs name [] (e ∷ es) pairs = absurd pairs
  own_pairs name (r ∷ rows) [] pairs = absurd pairs
  own_pairs name (r ∷ rows) (e ∷ es) pairs =
      let same = ap (λ (n : List ℕ). bytes_eq n name) (row_named r e pairs.0) in
      let rest = own_pairs name rows es pairs.1 in
      elim (cases_Bool (of name e)) [
        | inl is ↦ (let P : List R → List E → Type 0 = Pairs IsRowOf in
            subst (λ (rs : List R). P rs (filter (of name) (e ∷ es)))
            (sym (filter_in (row_of name) r rows (same ∙ is)))
            (subst (λ (ds : List E). P (r ∷ filter (row_of name) rows) ds)
            (sym (filter_in (of name) e es is)) (pairs.0, rest)))
        | inr not ↦ (let P : List R → List E → Type 0 = Pairs IsRowOf in
            subst (λ (rs : List R). P rs (filter (of name) (e ∷ es)))
            (sym (filter_out (row_of name) r rows (same ∙ not)))
            (subst (λ (ds : List E). P (filter (row_of name) rows) ds)
            (sym (filter_out (of name) e es not)) rest))
      ]

  -- entries are determined by their rows
  entries_are : (before own es : List E) → Pairs IsRowOf (from before own) es → es ≡ own
  entries_are before [] [] pairs = refl
  entries_are before [] (e ∷ es) pairs = absurd pairs
  entries_are before (d ∷ own) [] pairs = absurd pairs
  entries_are before (d ∷ own) (e ∷ es) pairs =
      let same : d ≡ e = one before pairs.0.0 d e pairs.0.1 in
      ap (λ (x : E). x ∷ es) (sym same)
      ∙ ap (λ (xs : List E). d ∷ xs) (entries_are (before ++ d ∷ []) own es pairs.1)

  module _ (names : List (List ℕ)) (rows : List R)
      (covered : (r : R) → Has rows r → Has names (row_name r))
      (owns : (name : List ℕ) → Has names name → (own : List E) × AreOwn rows name own) where
    found : (es : List E) × Pairs IsRowOf rows es
    found = paired IsRowOf rows (λ r has.
        let own = owns (row_name r) (covered r has) in
        let P : List R → Type 0 = λ (rs : List R). Has rs r in
        row_from [] own.0 r (subst P own.1.are
        (has_kept (row_of (row_name r)) rows r has (own_name (row_name r)))))

    pub gathered : List E
    gathered = found.0

    -- what is gathered of an account are its own entries
    pub own_gathered : (name : List ℕ) (own : List E) → AreOwn rows name own
        → filter (of name) gathered ≡ own
    unfolding gathered
    own_gathered name own are =
        entries_are [] own (filter (of name) found.0)
        (subst (λ (rs : List R). Pairs IsRowOf rs (filter (of name) found.0)) are.are
        (own_pairs name rows found.0 found.1))

    -- of an account that has none of the rows nothing is gathered
    none_gathered : (name : List ℕ) → filter (row_of name) rows ≡ []
        → filter (of name) gathered ≡ []
    none_gathered name none =
        own_gathered name [] (record { each = λ e has. absurd has; are = none })

    by_name : (name : List ℕ)
        → filter (row_of name) rows ≡ from [] (filter (of name) gathered)
    by_name name = elim (has_or_not names name) [
      | inl there ↦ (let own = owns name there in
          own.1.are ∙ ap (λ (es : List E). from [] es) (sym (own_gathered name own.0 own.1)))
      | inr not_there ↦ (let none = filter_none (row_of name) rows (λ r has is.
          not_there (subst (λ (n : List ℕ). Has names n) (same_text (row_name r) name is)
          (covered r has))) in
          none ∙ ap (λ (es : List E). from [] es) (sym (none_gathered name none)))
    ]

    pub rows_gathered : rows ≡ from [] gathered
    unfolding gathered
    rows_gathered = rows_by_name name_of row_name row named own_alone found.0 rows
        (names_same rows found.0 found.1) by_name

    -- each entry is of one of the accounts
    pub gathered_named : (e : E) → Has gathered e → Has names (name_of e)
    unfolding gathered
    gathered_named e has =
        let same = names_same rows found.0 found.1 in
        let P : List (List ℕ) → Type 0 = λ (ns : List (List ℕ)). Has ns (name_of e) in
        let r = has_mapped row_name rows (name_of e)
        (subst P (sym same) (mapped_has name_of found.0 e has)) in
        subst (Has names) (sym r.2) (covered r.0 r.1)

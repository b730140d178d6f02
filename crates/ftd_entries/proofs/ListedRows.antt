-- What was listed of a table, and its rows.
use Rattle.std.proofs.Common.{◌≡◌, Bool, true, List, [], ◌∷◌, map, inl, inr, refl, sym, ap, ◌∙◌}
use Rattle.std.proofs.Common.{subst}
use Rattle.std.specs.Prelude.{filter, string_bytes}
use Rattle.std.proofs.lemmas.Bool.{cases_Bool}
use Rattle.std.proofs.lemmas.List.Sorted.{IsPermutation-sym}
use Rattle.ftd_rules.specs.Lists.{Has}
use Rattle.ftd_rules.proofs.Rising.{has_permuted}
use Rattle.ftd_rules.proofs.Members.{filter_in, filter_out, has_kept, has_mapped}
use Rattle.ftd_sql.specs.Rows.{ObligationRow}
use Rattle.ftd_store.specs.declared.obligation_cells.AccountObligation.{AccountObligation}
use Rattle.ftd_store.specs.Lists.{Pairs, Lists}
use Rattle.ftd_store.specs.Rows.{obligation_row}
use Rattle.ftd_store.specs.Finds.{IsAccountObligation}
use Rattle.ftd_machine.proofs.Members.{has_filtered}

-- ---- tests

-- what a test keeps of what is seen is seen of what it keeps
pub kept_seen : {X Y : Type 0} (see : X → Y) (p : Y → Bool) (q : X → Bool)
    → ((x : X) → p (see x) ≡ q x) → (xs : List X)
    → filter p (map see xs) ≡ map see (filter q xs)
kept_seen see p q same [] = refl
kept_seen {X = X} {Y = Y} see p q same (x ∷ xs) =
    let rest : filter p (map see xs) ≡ map see (filter q xs) = kept_seen see p q same xs in
    elim (cases_Bool (q x)) [
      | inl kept ↦ filter_in p (see x) (map see xs) (same x ∙ kept)
          ∙ (ap (λ (l : List Y). see x ∷ l) rest ∙ sym (ap (map see) (filter_in q x xs kept)))
      | inr left ↦ filter_out p (see x) (map see xs) (same x ∙ left)
          ∙ (rest ∙ sym (ap (map see) (filter_out q x xs left)))
    ]

-- ---- values that each have their row

module _ {X Y : Type 0} (row_for : Y → X) where
  abbrev pub IsFor : X → Y → Type 0
  IsFor row y = row ≡ row_for y

  pub value_row : (rows : List X) (given : List Y) → Pairs IsFor rows given → (y : Y)
      → Has given y → Has rows (row_for y)
  value_row [] [] pairs y has = absurd has
  value_row [] (z ∷ given) pairs y has = absurd pairs
  value_row (r ∷ rows) [] pairs y has = absurd has
  value_row (r ∷ rows) (z ∷ given) pairs y (inl is) = inl (ap row_for is ∙ sym pairs.0)
  value_row (r ∷ rows) (z ∷ given) pairs y (inr has) = inr (value_row rows given pairs.1 y has)

  pub row_value : (rows : List X) (given : List Y) → Pairs IsFor rows given → (r : X) → Has rows r
      → (y : Y) × Has given y × (r ≡ row_for y)
  row_value [] given pairs r has = absurd has
  row_value (q ∷ rows) [] pairs r has = absurd pairs
  row_value (q ∷ rows) (z ∷ given) pairs r (inl is) = (z, inl refl, is ∙ pairs.0)
  row_value (q ∷ rows) (z ∷ given) pairs r (inr has) = let found =
      row_value rows given pairs.1 r has in (found.0, inr found.1, found.2)

  -- what the rows that pass a test were listed as, in whatever order
  module _ (Rise : X → X → Type 0) (test : X → Bool) (rows : List X) (given : List Y)
      (listed : Lists Rise IsFor (filter test rows) given) where
    -- what was listed has its row there, which passes
    pub value_passes : (y : Y) → Has given y → Has rows (row_for y) × (test (row_for y) ≡ true)
    value_passes y has =
        has_filtered test rows (row_for y)
        (has_permuted (filter test rows) listed.ordered listed.same (row_for y)
        (value_row listed.ordered given listed.pairs y has))

    -- a row that passes is that of what was listed
    pub passing_value : (r : X) → Has rows r → test r ≡ true
        → (y : Y) × Has given y × (r ≡ row_for y)
    passing_value r has passes =
        row_value listed.ordered given listed.pairs r
        (has_permuted listed.ordered (filter test rows)
        (IsPermutation-sym (filter test rows) listed.ordered listed.same) r
        (has_kept test rows r has passes))

  -- what was listed is of an entry whose row is that, where the rows are those of entries
  pub entry_listed : {E : Type 0} (Rise : X → X → Type 0) (test : X → Bool) (given : List Y)
      (row : E → X) (entries : List E) {rows : List X} → rows ≡ map row entries
      → Lists Rise IsFor (filter test rows) given → (y : Y) → Has given y
      → (e : E) × Has entries e × (row e ≡ row_for y) × (test (row_for y) ≡ true)
  entry_listed Rise test given row entries {rows = rows} are listed y has =
      let there = value_passes Rise test rows given listed y has in
      let from = has_mapped row entries (row_for y) (subst (λ rs. Has rs (row_for y)) are there.0)
      in
      (from.0, from.1, sym from.2, there.1)

-- ---- obligations with their accounts

-- the row of an obligation and its account
abbrev pub row_of : AccountObligation → ObligationRow
row_of x = obligation_row (string_bytes x.account) x.obligation

module _ (Rise : ObligationRow → ObligationRow → Type 0) (test : ObligationRow → Bool)
    (rows : List ObligationRow) (given : List AccountObligation)
    (listed : Lists Rise IsAccountObligation (filter test rows) given) where
  pub listed_passes : (x : AccountObligation) → Has given x
      → Has rows (row_of x) × (test (row_of x) ≡ true)
  listed_passes x has = value_passes row_of Rise test rows given listed x has

  pub passing_listed : (r : ObligationRow) → Has rows r → test r ≡ true
      → (x : AccountObligation) × Has given x × (r ≡ row_of x)
  passing_listed r has passes = passing_value row_of Rise test rows given listed r has passes

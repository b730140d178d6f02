-- Rows of obligations whose due dates are moved one after the other.
use Rattle.std.proofs.Common.{◌≡◌, ℕ, ◌+◌, ◌<◌, true, false, List, [], ◌∷◌, map, take, length}
use Rattle.std.proofs.Common.{get_or, inl, inr, refl, sym, ap, ◌∙◌, subst}
use Rattle.std.specs.Prelude.{string_bytes}
use Rattle.std.proofs.lemmas.Bool.{true≢false, cases_Bool}
use Rattle.ftd_sql.specs.declared.TableName.{TableName}
use Rattle.ftd_sql.specs.declared.TableName.TheVariants.{Obligations}
use Rattle.ftd_sql.specs.Rows.{ObligationRow}
use Rattle.ftd_sql.specs.Standing.{Tables, with_rows}
use Rattle.ftd_sql.specs.Tests.{with_due}
use Rattle.ftd_sql.specs.Kept.{changed}
use Rattle.ftd_store.specs.declared.obligation_cells.AccountObligation.{AccountObligation}
use Rattle.ftd_store.specs.Cells.{day_number}
use Rattle.ftd_store.specs.Lists.{Pairs}
use Rattle.ftd_store.specs.Changes.{with_due_date}
use Rattle.ftd_store.proofs.Items.{has_more, has_still, has_now}
use Rattle.ftd_posting.specs.Moved.{is_row_of, IsDueThen, IsMoved, IsAfter, MovesDue}

-- ---- tables

only_same : (t : Tables) (n : TableName) → t n ≡ with_rows Obligations (t Obligations) t n
only_same t Obligations = refl
only_same t n = refl

only_more : (rows : List ObligationRow) (old new : Tables)
    → ((n : TableName) → new n ≡ with_rows Obligations (new Obligations) old n)
    → (n : TableName) → with_rows Obligations rows new n ≡ with_rows Obligations rows old n
only_more rows old new only Obligations = refl
only_more rows old new only n = only n

-- ---- pairs of rows

pairs_same : (R : ObligationRow → ObligationRow → Type 0) (rows : List ObligationRow)
    → ((r : ObligationRow) → R r r) → Pairs R rows rows
pairs_same R [] same = tt
pairs_same R (r ∷ rows) same = (same r, pairs_same R rows same)

pairs_map : (R Q : ObligationRow → ObligationRow → Type 0) (f : ObligationRow → ObligationRow)
    → ((r s : ObligationRow) → R r s → Q r (f s))
    → (rows news : List ObligationRow) → Pairs R rows news → Pairs Q rows (map f news)
pairs_map R Q f step [] [] pairs = tt
pairs_map R Q f step [] (s ∷ news) pairs = absurd pairs
pairs_map R Q f step (r ∷ rows) [] pairs = absurd pairs
pairs_map R Q f step (r ∷ rows) (s ∷ news) pairs =
    (step r s pairs.0, pairs_map R Q f step rows news pairs.1)

pairs_on : (R Q : ObligationRow → ObligationRow → Type 0) → ((r s : ObligationRow) → R r s → Q r s)
    → (rows news : List ObligationRow) → Pairs R rows news → Pairs Q rows news
pairs_on R Q step [] [] pairs = tt
pairs_on R Q step [] (s ∷ news) pairs = absurd pairs
pairs_on R Q step (r ∷ rows) [] pairs = absurd pairs
pairs_on R Q step (r ∷ rows) (s ∷ news) pairs =
    (step r s pairs.0, pairs_on R Q step rows news pairs.1)

-- none is moved yet
pub moves_none : (holidays : List ℕ) (given : List AccountObligation) (t : Tables)
    → MovesDue holidays (take 0 given) t t
moves_none holidays given t = record {
  rows = pairs_same (IsAfter holidays (take 0 given)) (t Obligations)
      (λ r. inr (refl, λ o has. absurd has));
  only = only_same t;
}

-- ---- one obligation more

module _ (holidays : List ℕ) (given : List AccountObligation) (i : ℕ) (o : AccountObligation)
    (some : i < length given) (is : o ≡ get_or given i o) where
  moved_still : (r s : ObligationRow) → IsMoved holidays (take i given) r s
      → IsMoved holidays (take (i + 1) given) r s
  moved_still r s moved = (moved.0, has_still given i o moved.0 some is moved.1, moved.2, moved.3)

  -- whose due date stays
  stays : IsDueThen holidays o o.obligation.due → (r s : ObligationRow)
      → IsAfter holidays (take i given) r s → IsAfter holidays (take (i + 1) given) r s
  stays due r s (inl moved) = inl (moved_still r s moved)
  stays due r s (inr left) = inr (
    left.0,
    (λ x has its. elim (has_more given i o x some is has) [
      | inl before ↦ left.1 x before its
      | inr here ↦ subst (λ (y : AccountObligation). IsDueThen holidays y y.obligation.due)
          (sym here) due
    ]),
  )

  pub moves_same : IsDueThen holidays o o.obligation.due → (old new : Tables)
      → MovesDue holidays (take i given) old new → MovesDue holidays (take (i + 1) given) old new
  moves_same due old new m = record {
    rows = pairs_on (IsAfter holidays (take i given)) (IsAfter holidays (take (i + 1) given))
        (stays due) (old Obligations) (new Obligations) m.rows;
    only = m.only;
  }

  -- whose row gets another one
  module _ (due : ℕ) (then : IsDueThen holidays o due) where
    abbrev change : ObligationRow → ObligationRow
    change = with_due (day_number due)

    -- a row that is the obligation's
    here : (r s : ObligationRow) → is_row_of o r ≡ true → (change s ≡ change r)
        → IsAfter holidays (take (i + 1) given) r (change s)
    here r s its same = inl (o, has_now given i o some is, its, (due, then, same))

    -- another row
    elsewhere : (r s : ObligationRow) → is_row_of o r ≡ false → IsAfter holidays (take i given) r s
        → IsAfter holidays (take (i + 1) given) r s
    elsewhere r s other (inl moved) = inl (moved_still r s moved)
    elsewhere r s other (inr left) = inr (
      left.0,
      (λ x has its. elim (has_more given i o x some is has) [
        | inl before ↦ left.1 x before its
        | inr this ↦
            absurd (true≢false (sym its ∙ (ap (λ (y : AccountObligation). is_row_of y r) this
            ∙ other)))
      ]),
    )

    -- the row after some moves is of the same account and first day
    same_row : (r s : ObligationRow) → IsAfter holidays (take i given) r s
        → is_row_of o s ≡ is_row_of o r
    same_row r s (inl moved) = ap (is_row_of o) moved.3.2
    same_row r s (inr left) = ap (is_row_of o) left.0

    same_change : (r s : ObligationRow) → IsAfter holidays (take i given) r s → change s ≡ change r
    same_change r s (inl moved) = ap change moved.3.2
    same_change r s (inr left) = ap change left.0

    step : (r s : ObligationRow) → IsAfter holidays (take i given) r s
        → IsAfter holidays (take (i + 1) given) r (changed (is_row_of o) change s)
    step r s after =
        let test = same_row r s after in
        elim (cases_Bool (is_row_of o r)) [
          | inl its ↦
              (let made : changed (is_row_of o) change s ≡ change s = rw (test ∙ its) refl in
              subst (IsAfter holidays (take (i + 1) given) r) (sym made)
              (here r s its (same_change r s after)))
          | inr other ↦
              (let made : changed (is_row_of o) change s ≡ s = rw (test ∙ other) refl in
              subst (IsAfter holidays (take (i + 1) given) r) (sym made)
              (elsewhere r s other after))
        ]

    pub moves_more : (old new : Tables) → MovesDue holidays (take i given) old new
        → MovesDue holidays (take (i + 1) given) old
        (with_due_date (string_bytes o.account) o.obligation.first due new)
    moves_more old new m = record {
      rows = pairs_map (IsAfter holidays (take i given)) (IsAfter holidays (take (i + 1) given))
          (changed (is_row_of o) change) step (old Obligations) (new Obligations) m.rows;
      only = only_more (map (changed (is_row_of o) change) (new Obligations)) old new m.only;
    }

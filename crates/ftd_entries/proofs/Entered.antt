-- The rows of what was entered, in their groups, and with one more.
use Rattle.std.proofs.Common.{◌≡◌, ◌∙◌, refl, sym, ap, List, [], ◌∷◌, ◌++◌, map}
use Rattle.std.proofs.Common.{append-nil, append_assoc}
use Rattle.std.proofs.lemmas.List.{map-append}
use Rattle.ftd_sql.specs.declared.TableName.TheVariants.{Metas}
use Rattle.ftd_sql.specs.Beginnings.{HasVersion}
use Rattle.ftd_sql.specs.Standing.{Tables}
use Rattle.ftd_machine.specs.State.{State}
use Rattle.ftd_entries.specs.Standing.{KeepsEntries, KeepsAccounts, KeepsFigures, KeepsDays}
use Rattle.ftd_entries.specs.Standing.{KeepsPaid, with_earlier}

-- the four groups, in tables that are marked as of version 3
pub entered : {t : Tables} {s : State} → HasVersion (t Metas) 3 → KeepsAccounts t s
    → KeepsFigures t s → KeepsDays t s → KeepsPaid t s → KeepsEntries t s
entered meta enrolled figures days paid = record {
  meta = meta;
  enrolled = enrolled;
  figures = figures;
  days = days;
  paid = paid;
}

-- the row of one entry more
pub row_more : {X R : Type 0} (row : X → R) (xs : List X) (x : X) {rows : List R}
    → rows ≡ map row xs → rows ++ row x ∷ [] ≡ map row (xs ++ x ∷ [])
row_more row xs x are = ap (λ rs. rs ++ row x ∷ []) are ∙ sym (map-append row xs (x ∷ []))

-- one more, with all that came before it
pub with_earlier_more : {X : Type 0} (before xs : List X) (x : X)
    → with_earlier before (xs ++ x ∷ []) ≡ with_earlier before xs ++ (before ++ xs, x) ∷ []
with_earlier_more before [] x = rw (append-nil before) refl
with_earlier_more before (y ∷ xs) x =
    ap (λ ps. (before, y) ∷ ps)
    (with_earlier_more (before ++ y ∷ []) xs x
    ∙ ap (λ b. with_earlier (before ++ y ∷ []) xs ++ (b, x) ∷ []) (append_assoc before (y ∷ []) xs))

-- the row of one correction more
pub corrected_more : {X R : Type 0} (entry : List X × X → R) (xs : List X) (x : X) (row : R)
    {rows : List R} → entry (xs, x) ≡ row → rows ≡ map entry (with_earlier [] xs)
    → rows ++ row ∷ [] ≡ map entry (with_earlier [] (xs ++ x ∷ []))
corrected_more entry xs x row is are =
    ap (λ rs. rs ++ row ∷ []) are
    ∙ ap (λ r. map entry (with_earlier [] xs) ++ r ∷ []) (sym is)
    ∙ sym (ap (map entry) (with_earlier_more [] xs x)
    ∙ map-append entry (with_earlier [] xs) ((xs, x) ∷ []))

-- The hints that are left, record by record.
use Rattle.std.proofs.Common.{◌≡◌, ◌≤◌, ◌+◌, ℕ, zero, suc, List, [], ◌∷◌, ◌++◌, take, refl, ap, sym}
use Rattle.std.proofs.Common.{◌∙◌, arith}
use Rattle.std.specs.Prelude.{filter}
use Rattle.std.specs.List.{enumerate_from, flat_map}
use Rattle.ftd_csv.specs.Fields.{numbered_field}
use Rattle.ftd_csv.specs.Places.{Advances, fields_at, number_of, rows_after, said_at, sheet_of}
use Rattle.ftd_csv.specs.Records.{entry_in}
use Rattle.ftd_csv.specs.declared.entries.Content.{Content}
use Rattle.ftd_csv.specs.declared.entries.Content.TheVariants as content
use Rattle.ftd_csv.specs.declared.reading.Records.{Records}
use Rattle.ftd_csv.specs.declared.sheets.Sheet.{Sheet}
use Rattle.ftd_csv.specs.Hints.{is_malformed, row_hint, said_hint, text_hint}
use Rattle.ftd_csv.specs.HintPlaces.{hints_left}

-- the hints of some rows, of so many at most
abbrev hints_among : Sheet → ℕ → ℕ → List (List (List ℕ)) → List ℕ
hints_among kind most number rows =
    flat_map (row_hint kind) (take most (filter (is_malformed kind) (enumerate_from number rows)))

none_among : (kind : Sheet) (most number : ℕ) → hints_among kind most number [] ≡ []
none_among kind zero number = refl
none_among kind (suc most) number = refl

-- no hints are wanted any more, or no records are left
pub none_wanted : (most : ℕ) (records : Records) → most ≤ 0 → hints_left most records ≡ []
none_wanted zero records h = refl
none_wanted (suc most) records h = absurd (omega arith)

pub none_left : (most : ℕ) (records : Records) → rows_after records ≡ []
    → hints_left most records ≡ []
none_left most records e =
    ap (λ (rows : List (List (List ℕ))). hints_among (sheet_of records) most
    (number_of records + 1) rows) e ∙ none_among (sheet_of records) most (number_of records + 1)

bad_first : (kind : Sheet) (most number field : ℕ) (fields : List (List ℕ))
    (rows : List (List (List ℕ))) → entry_in kind fields ≡ content.Malformed field
    → hints_among kind (suc most) number (fields ∷ rows)
    ≡ text_hint kind number fields field (numbered_field fields field)
    ++ hints_among kind most (number + 1) rows
bad_first kind most number field fields rows e =
    let hint : row_hint kind (number, fields)
    ≡ text_hint kind number fields field (numbered_field fields field) =
    ap (λ (said : Content). said_hint kind number fields said) e in
    rw e (ap (λ (text : List ℕ). text ++ hints_among kind most (number + 1) rows) hint)

-- what is left before a record is what is left with it
with_first : (most : ℕ) (old new : Records) → Advances old new
    → hints_left most old
    ≡ hints_among (sheet_of new) most (number_of new) (fields_at new ∷ rows_after new)
with_first most old new goes =
    ap (λ (kind : Sheet). hints_among kind most (number_of old + 1) (rows_after old))
    (sym goes.sheet)
    ∙ ap (λ (rows : List (List (List ℕ))). hints_among (sheet_of new) most (number_of old + 1) rows)
    goes.rows
    ∙ ap (λ n. hints_among (sheet_of new) most n (fields_at new ∷ rows_after new))
    (sym goes.number)

pub past_bad : (most left field : ℕ) (old new : Records) → Advances old new
    → said_at new ≡ content.Malformed field → most ≡ suc left
    → hints_left most old
    ≡ text_hint (sheet_of new) (number_of new) (fields_at new) field
    (numbered_field (fields_at new) field) ++ hints_left left new
past_bad most left field old new goes e more = with_first most old new goes
    ∙ rw more (bad_first (sheet_of new) left (number_of new) field (fields_at new)
    (rows_after new) e)

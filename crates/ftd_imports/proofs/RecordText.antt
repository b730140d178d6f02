-- The text of plain fields with one comma between is what a writer of CSV writes of them.
use Rattle.std.proofs.Common.{◌≡◌, ◌∙◌, refl, ap, ℕ, List, [], ◌∷◌, ◌++◌, append-nil}
use Rattle.std.proofs.Common.{true}
use Rattle.std.specs.List.{join_with_byte}
use Rattle.csv.specs.Writing.{default_writer, field_text, fields_text, row_body, row_text, is_blank}
use Rattle.ftd_imports.proofs.PlainFields.{are_own, plain}

-- all fields are made of these bytes
abbrev pub AreOwn : List (List ℕ) → Type 0
AreOwn [] = Unit {0}
AreOwn (field ∷ fields) = (are_own field ≡ true) × AreOwn fields

plain_text : (field : List ℕ) → are_own field ≡ true → field_text default_writer field ≡ field
plain_text field e = rw (plain field e) refl

joined : (field : List ℕ) (fields : List (List ℕ)) → AreOwn (field ∷ fields)
    → row_body default_writer (field ∷ fields) ≡ join_with_byte 44 (field ∷ fields)
unfolding fields_text
joined field [] own = rw (plain_text field own.0) (append-nil field)
joined field (next ∷ fields) own =
    ap (λ (f : List ℕ). f ++ fields_text default_writer (next ∷ fields)) (plain_text field own.0)
    ∙ ap (λ (z : List ℕ). field ++ (44 ∷ z)) (joined next fields own.1)

pub row_is : (field next : List ℕ) (fields : List (List ℕ)) → AreOwn (field ∷ next ∷ fields)
    → row_text default_writer (field ∷ next ∷ fields)
    ≡ join_with_byte 44 (field ∷ next ∷ fields) ++ (10 ∷ [])
unfolding is_blank
row_is field next fields own =
    ap (λ (z : List ℕ). z ++ (10 ∷ [])) (joined field (next ∷ fields) own)

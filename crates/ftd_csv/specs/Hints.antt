-- The hints of the malformed records of a text.
use Rattle.std.specs.Prelude.{ℕ, Bool, true, false, ◌&&◌, ◌==◌, nat_le, if◌then◌else◌, List, []}
use Rattle.std.specs.Prelude.{◌∷◌, Option, Some, None, codes, length, take, filter, bytes_eq}
use Rattle.std.specs.Cmp.Lexicographic.{pointwise}
use Rattle.std.specs.Fmt.{decimal}
use Rattle.std.specs.List.{concat, enumerate_from, flat_map}
use Rattle.ftd_csv.specs.declared.reading.TheConstants.{MOST_BYTES}
use Rattle.ftd_csv.specs.Fields.{numbered_field}
use Rattle.ftd_csv.specs.Records.{entry_in, record_rows, rows_of}
use Rattle.ftd_csv.specs.Sheets.{header_row, width_of}
use Rattle.ftd_csv.specs.declared.entries.Content.{Content}
use Rattle.ftd_csv.specs.declared.entries.Content.TheVariants as content
use Rattle.ftd_csv.specs.declared.sheets.Sheet.{Sheet}
use Rattle.ftd_csv.specs.FieldHints.{asked_in, field_name}
use Rattle.ftd_csv.specs.Shown.{shown}

-- a row with its number
abbrev pub Numbered : Type 0
Numbered = ℕ × List (List ℕ)

-- what is told of a field: its text, or that there is none
abbrev pub field_text : List ℕ → List ℕ
field_text [] = codes "empty"
field_text (byte ∷ text) = shown (byte ∷ text)

-- `hint: record 3: run is 0, and not a number from 1 to 999999999`
unfoldable pub field_hint : Sheet → ℕ → ℕ → List ℕ → List ℕ
field_hint kind number field text =
    concat (codes "hint: record " ∷ decimal number ∷ codes ": " ∷ field_name kind field
    ∷ codes " is " ∷ field_text text ∷ codes ", and not " ∷ asked_in kind field ∷ (10 ∷ []) ∷ [])

-- `hint: record 5 has 3 fields, and not 6`
abbrev pub fields_text : ℕ → List ℕ
fields_text width = if width == 1 then codes " field, and not " else codes " fields, and not "

unfoldable pub width_hint : Sheet → ℕ → ℕ → List ℕ
width_hint kind number width =
    concat (codes "hint: record " ∷ decimal number ∷ codes " has " ∷ decimal width
    ∷ fields_text width ∷ decimal (width_of kind) ∷ (10 ∷ []) ∷ [])

-- the hint of a record whose bad field has this number: the text of the field, or, where there is
-- none since the record has other fields than the header, how many it has
abbrev pub text_hint : Sheet → ℕ → List (List ℕ) → ℕ → Option (List ℕ) → List ℕ
text_hint kind number fields field None = width_hint kind number (length fields)
text_hint kind number fields field (Some text) = field_hint kind number field text

abbrev pub said_hint : Sheet → ℕ → List (List ℕ) → Content → List ℕ
said_hint kind number fields (content.Entry it) = []
said_hint kind number fields (content.Malformed field) =
    text_hint kind number fields field (numbered_field fields field)

-- the hint of a row, which is none where it enters something
abbrev pub row_hint : Sheet → Numbered → List ℕ
row_hint kind (number, fields) = said_hint kind number fields (entry_in kind fields)

abbrev pub is_bad : Content → Bool
is_bad (content.Entry it) = false
is_bad (content.Malformed field) = true

abbrev pub is_malformed : Sheet → Numbered → Bool
is_malformed kind (number, fields) = is_bad (entry_in kind fields)

-- the first row is the header
abbrev pub begins_with_header : Sheet → List (List (List ℕ)) → Bool
begins_with_header kind [] = false
begins_with_header kind (first ∷ rows) = pointwise bytes_eq first (header_row kind)

-- the text is not too long and has the header
abbrev pub has_records : Sheet → List ℕ → Bool
has_records kind text =
    nat_le (length text) MOST_BYTES && begins_with_header kind (rows_of text)

-- the malformed records of a text, each with its number: the header is record 1
abbrev pub malformed_records : Sheet → List ℕ → List Numbered
malformed_records kind text =
    if has_records kind text
    then filter (is_malformed kind) (enumerate_from 2 (record_rows text)) else []

-- the hints of so many of them at most, from the first on
unfoldable pub record_hints : Sheet → ℕ → List ℕ → List ℕ
record_hints kind most text = flat_map (row_hint kind) (take most (malformed_records kind text))

-- The records of a CSV text.
use Rattle.std.specs.Prelude.{◌≡◌, ℕ, ◌+◌, ◌==◌, List, [], ◌∷◌, drop, length, map, Some, Result, Ok}
use Rattle.std.specs.Prelude.{Err, if◌then◌else◌}
use Rattle.std.specs.List.{slice_get}
use Rattle.csv.specs.Reading.{default_config, records, strip_bom}
use Rattle.ftd_machine.specs.declared.requests.Request.{Request}
use Rattle.ftd_verbs.specs.Asked.{asked}
use Rattle.ftd_verbs.specs.Fields.{Said}
use Rattle.ftd_verbs.specs.declared.field.Field.{Field}
use Rattle.ftd_csv.specs.Fields.{said_in, verb_of}
use Rattle.ftd_csv.specs.Sheets.{column_of, header_row, width_of}
use Rattle.ftd_csv.specs.declared.entries.Content.{Content}
use Rattle.ftd_csv.specs.declared.entries.Content.TheVariants as content
use Rattle.ftd_csv.specs.declared.sheets.Sheet.{Sheet}

-- what is asked, or the number of the field that is bad
abbrev pub content_by : Sheet → Result Request Field → Content
content_by kind (Ok request) = content.Entry request
content_by kind (Err at) = content.Malformed (column_of kind at)

-- what a record of these fields says, on a sheet: what its verb asks by them, where they are as
-- many as the header has
unfoldable pub entry_in : Sheet → List (List ℕ) → Content
entry_in kind fields =
    let said : Said = said_in kind fields in
    if length fields == width_of kind then content_by kind (asked (verb_of kind said) said)
    else content.Malformed 0

-- ---- the records of a text

-- the rows of a text, by csv's default reading; a byte order mark at its start is taken away
unfoldable pub rows_of : List ℕ → List (List (List ℕ))
rows_of text = records default_config (strip_bom text)

-- the first row of the text is the header
abbrev pub HasHeader : Sheet → List ℕ → Type 0
HasHeader kind text = slice_get (rows_of text) 0 ≡ Some (header_row kind)

-- the rows of the records, which are those under the first
abbrev pub record_rows : List ℕ → List (List (List ℕ))
record_rows text = drop 1 (rows_of text)

-- what they say
abbrev pub records_of : Sheet → List ℕ → List Content
records_of kind text = map (entry_in kind) (record_rows text)

-- each with its number, from this one on
abbrev pub numbered_from : ℕ → List Content → List (ℕ × Content)
numbered_from number [] = []
numbered_from number (said ∷ others) = (number, said) ∷ numbered_from (number + 1) others

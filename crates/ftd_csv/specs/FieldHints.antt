-- The fields of a record.
use Rattle.std.specs.Prelude.{ℕ, ◌==◌, ◌||◌, ◌++◌, if◌then◌else◌, List, [], codes}
use Rattle.std.specs.Option.{unwrap_or}
use Rattle.ftd_csv.specs.Fields.{numbered_field}
use Rattle.ftd_csv.specs.Sheets.{header_row}
use Rattle.ftd_csv.specs.declared.sheets.Sheet.{Sheet}
use Rattle.ftd_csv.specs.declared.sheets.Sheet.TheVariants as sheet

-- the name of a field, by its number
abbrev pub field_name : Sheet → ℕ → List ℕ
field_name kind field = unwrap_or (numbered_field (header_row kind) field) []

-- what is asked for in a field of each kind
abbrev pub name_asked : List ℕ
name_asked =
    codes "an account name: 1 to 20 bytes, a lower-case letter, "
    ++ codes "then lower-case letters, digits or hyphens"

abbrev pub number_asked : List ℕ
number_asked = codes "a number from 1 to 999999999"

abbrev pub day_asked : List ℕ
day_asked = codes "a date from 1900 to 2199; write it like 2024-05-27"

abbrev pub amount_asked : List ℕ
amount_asked = codes "an amount up to 999999999.99; write it like 1234.56"

-- what is asked for in a field behind the first, by its number
abbrev pub asked_by : Sheet → ℕ → List ℕ
asked_by sheet.Runs field =
    if field == 2 then number_asked else if field == 3 then day_asked else amount_asked
asked_by sheet.Accounts field =
    if field == 2 then day_asked else if field == 3 then codes "yes or no"
    else codes "941 or 943"
asked_by sheet.Totals field =
    if field == 2 then codes "a quarter like 2024Q2, or a year like 2024" else amount_asked
asked_by sheet.Payments field =
    if field == 2 then number_asked else
    if (field == 3) || (field == 4) then day_asked else amount_asked

-- what is asked for in a field; the first of each record is an account name
abbrev pub asked_in : Sheet → ℕ → List ℕ
asked_in kind field = if field == 1 then name_asked else asked_by kind field

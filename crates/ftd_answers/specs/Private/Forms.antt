-- How a row is written: the names of its fields, each with its value.
use Rattle.std.specs.Prelude.{ℕ, Bool, true, false, List, [], map, take, if◌then◌else◌}
use Rattle.std.specs.List.{count_by}
use Rattle.ftd_answers.specs.Fields.{member, object_of, record_of, shown_as}
use Rattle.ftd_answers.specs.declared.fields.Value.{Value}
use Rattle.ftd_answers.specs.declared.forms.FieldName.{FieldName}
use Rattle.ftd_answers.specs.declared.forms.FieldName.TheVariants.{Both, Each, Json}
use Rattle.ftd_answers.specs.declared.forms.RowForm.{RowForm}
use Rattle.ftd_answers.specs.declared.forms.RowForm.TheVariants.{Record, Object}

-- whether it names a column, and the names of the column and of the member
abbrev pub is_column : FieldName → Bool
is_column (Both name) = true
is_column (Each column member) = true
is_column (Json name) = false

abbrev pub column_name : FieldName → List ℕ
column_name (Both name) = name.now
column_name (Each column member) = column.now
column_name (Json name) = []

abbrev pub member_name : FieldName → List ℕ
member_name (Both name) = name.now
member_name (Each column member) = member.now
member_name (Json name) = name.now

-- the columns stand before what JSON alone has
abbrev pub column_count : List FieldName → ℕ
column_count names = count_by is_column names

abbrev pub column_names : List FieldName → List (List ℕ)
column_names names = map column_name (take (column_count names) names)

-- a field of a row: its name, and the row's value
abbrev pub cell_count : List (FieldName × Value) → ℕ
cell_count fields = count_by (λ f. is_column f.0) fields

abbrev pub cell_of : FieldName × Value → List ℕ
cell_of field = (shown_as field.1).plain

abbrev pub cells_of : List (FieldName × Value) → List (List ℕ)
cells_of fields = map cell_of (take (cell_count fields) fields)

abbrev pub named_member : FieldName × Value → List ℕ
named_member field = member (member_name field.0) (shown_as field.1).json

-- a row as a record, which it has not where it is void, and as an object
abbrev pub row_as : RowForm → Bool → List (List ℕ) → List (List ℕ) → List ℕ
row_as Record void cells members = if void then [] else record_of cells
row_as Object void cells members = object_of members

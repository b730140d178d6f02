-- The fields of a row, as CSV and as JSON.
use Rattle.std.specs.Prelude.{ℕ, Bool, true, false, List, [], ◌∷◌, ◌++◌, codes, map, filter}
use Rattle.std.specs.Prelude.{Option, None, Some, if◌then◌else◌}
use Rattle.std.specs.Borrow.{Bor}
use Rattle.std.specs.Fmt.{decimal}
use Rattle.std.specs.List.{filter_map, flat_map, join_with_byte}
use Rattle.std.specs.Option.{is_some}
use Rattle.ftd_days.specs.Text.{day_text, quarter_text, cents_text}
use Rattle.ftd_rules.specs.Text.{rule_text}
use Rattle.ftd_rules.specs.Verdicts.{verdict_text}
use Rattle.ftd_answers.specs.Agendas.{form_number}
use Rattle.ftd_answers.specs.Columns.{line_end}
use Rattle.ftd_answers.specs.Listings.{kind_name}
use Rattle.ftd_answers.specs.declared.fields.Value.{Value}
use Rattle.ftd_answers.specs.declared.fields.Value.TheVariants as value

-- the byte of a comma
abbrev pub comma : ℕ
comma = 44

-- ---- CSV

-- `yes` or `no`
abbrev pub yes_no : Bool → List ℕ
yes_no true = codes "yes"
yes_no false = codes "no"

-- a record: the texts of its fields with one comma between, and the end of the line
abbrev pub record_of : List (List ℕ) → List ℕ
record_of texts = join_with_byte comma texts ++ (line_end ∷ [])

-- ---- JSON

-- a text that has no byte to be escaped
abbrev pub quoted : List ℕ → List ℕ
quoted text = codes "\"" ++ (text ++ codes "\"")

abbrev pub true_false : Bool → List ℕ
true_false true = codes "true"
true_false false = codes "false"

-- a member of an object: its name and its value
abbrev pub member : List ℕ → List ℕ → List ℕ
member name text = quoted name ++ (codes ":" ++ text)

-- an object of these members, and an array of these elements
abbrev pub object_of : List (List ℕ) → List ℕ
object_of members = codes "{" ++ (join_with_byte comma members ++ codes "}")

abbrev pub array_of : List (List ℕ) → List ℕ
array_of elements = codes "[" ++ (join_with_byte comma elements ++ codes "]")

-- a list: an object whose member `rows` has the rows, with other members behind, and the end of the
-- line
abbrev pub list_of : List (List ℕ) → List (List ℕ) → List ℕ
list_of rows members =
    object_of (member (codes "rows") (array_of rows) ∷ members) ++ (line_end ∷ [])

-- ---- a value as it is told: in a record, and as JSON

pub record Shown : Type 0 where
  pub plain : List ℕ
  pub json : List ℕ

abbrev pub as_text : List ℕ → Shown
as_text text = record { plain = text; json = quoted text }

abbrev pub as_number : ℕ → Shown
as_number number = record { plain = decimal number; json = decimal number }

abbrev pub as_flag : Bool → Shown
as_flag flag = record { plain = yes_no flag; json = true_false flag }

abbrev pub as_day : ℕ → Shown
as_day day = as_text (day_text day)

abbrev pub as_cents : ℕ → Shown
as_cents cents = as_text (cents_text cents)

-- nothing in a record where there is none, and `null` as JSON
abbrev pub or_none : {A : Type 0} → (A → Shown) → Option A → Shown
or_none show None = record { plain = []; json = codes "null" }
or_none show (Some x) = show x

-- a value as it is written
abbrev pub shown_as : Value → Shown
shown_as (value.Text text) = as_text text.now
shown_as (value.Number number) = as_number number
shown_as (value.NumberOrNone number) = or_none as_number number
shown_as (value.Count count) = as_number count
shown_as (value.Amount cents) = as_cents cents.0
shown_as (value.Sum total) = as_cents total
shown_as (value.Day day) = as_day day
shown_as (value.DayOrNone day) = or_none as_day day
shown_as (value.Quarter quarter) = as_text (quarter_text quarter)
shown_as (value.Form form) = as_text (form_number form)
shown_as (value.Kind kind) = as_text (kind_name kind)
shown_as (value.Rule rule) = as_text (rule_text rule)
shown_as (value.Verdict verdict) = as_text (verdict_text verdict)
shown_as (value.Flag flag) = as_flag flag

-- a member with its name, as it is written
abbrev pub member_of : Bor (List ℕ) × Value → List ℕ
member_of field = member field.0.now (shown_as field.1).json

-- ---- a member as it is told: its name, and its value

pub record Told : Type 0 where
  pub name : List ℕ
  pub json : List ℕ

abbrev pub field_of : List ℕ → Shown → Told
field_of name shown = record { name = name; json = shown.json }

abbrev pub text_field : List ℕ → List ℕ → Told
text_field name text = field_of name (as_text text)

abbrev pub number_field : List ℕ → ℕ → Told
number_field name number = field_of name (as_number number)

-- the members of an object, and the object
abbrev pub members_of : List Told → List (List ℕ)
members_of fields = map (λ f. member f.name f.json) fields

unfoldable pub object_told : List Told → List ℕ
object_told fields = object_of (members_of fields)

-- ---- the rows of a list

-- a field of rows: the name of its column in CSV, if it has one, that of its member in JSON, and
-- what a row has there
pub record Field (T : Type 0) : Type 0 where
  pub column : Option (List ℕ)
  pub name : T → List ℕ
  pub value : T → Shown

-- a field with one name in both, one with another name in CSV, and one that JSON alone has
abbrev pub both : {T : Type 0} → List ℕ → (T → Shown) → Field T
both name value = record { column = Some name; name = λ x. name; value = value }

abbrev pub each : {T : Type 0} → List ℕ → List ℕ → (T → Shown) → Field T
each column name value = record { column = Some column; name = λ x. name; value = value }

abbrev pub json_alone : {T : Type 0} → List ℕ → (T → Shown) → Field T
json_alone name value = record { column = None; name = λ x. name; value = value }

-- the names of the columns, and the header
abbrev pub columns : {T : Type 0} → List (Field T) → List (List ℕ)
columns fields = filter_map (λ f. f.column) fields

abbrev pub header_of : {T : Type 0} → List (Field T) → List ℕ
header_of fields = record_of (columns fields)

-- what a row has in the columns, and its record
abbrev pub cells : {T : Type 0} → List (Field T) → T → List (List ℕ)
cells fields x = map (λ f. (f.value x).plain) (filter (λ f. is_some f.column) fields)

unfoldable pub record_told : {T : Type 0} → List (Field T) → T → List ℕ
record_told fields x = record_of (cells fields x)

-- the members of its object
abbrev pub told_by : {T : Type 0} → List (Field T) → T → List Told
told_by fields x = map (λ f. field_of (f.name x) (f.value x)) fields

-- as CSV: the header, and a record for each row that is not void
abbrev pub csv_of : {T : Type 0} → (T → Bool) → List (Field T) → List T → List ℕ
csv_of is_void fields rows =
    header_of fields ++ flat_map (λ x. if is_void x then [] else record_told fields x) rows

-- of rows of which none can be void
abbrev pub none_void : {T : Type 0} → T → Bool
none_void x = false

-- as JSON: a list with an object for each row, and with sums behind
abbrev pub json_of : {T : Type 0} → List (Field T) → List (List ℕ) → List T → List ℕ
json_of fields sums rows = list_of (map (λ x. object_told (told_by fields x)) rows) sums

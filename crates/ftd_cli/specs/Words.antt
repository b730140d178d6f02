-- What the words of a subcommand say of the fields of its verb.
use Rattle.std.specs.Prelude.{List, Bool, true, false, Option, Some, None, option_and_then}
use Rattle.std.specs.Prelude.{option_map, ℕ, codes, if◌then◌else◌, Result, Ok, Err}
use Rattle.std.specs.Str.{bytes_eq}
use Rattle.std.specs.Option.{is_none}
use Rattle.clap.specs.Words.{Row, Text, first_of}
use Rattle.ftd_days.specs.Spelling.{cents_of, day_of, days_of, spelled_quarter, whole_number}
use Rattle.ftd_days.specs.declared.cents.Cents.{Cents}
use Rattle.ftd_machine.specs.declared.requests.Request.{Request}
use Rattle.ftd_rules.specs.declared.Form.{Form}
use Rattle.ftd_rules.specs.declared.Form.TheVariants.{F941, F943}
use Rattle.ftd_verbs.specs.Asked.{asked, greatest_number}
use Rattle.ftd_verbs.specs.FieldRows.{kind_of}
use Rattle.ftd_verbs.specs.Fields.{Said}
use Rattle.ftd_verbs.specs.declared.field.Field.{Field}
use Rattle.ftd_verbs.specs.declared.field.FieldFault.{FieldFault}
use Rattle.ftd_verbs.specs.declared.field.FieldFault.TheVariants as field_fault
use Rattle.ftd_verbs.specs.declared.field.Kind.{Kind}
use Rattle.ftd_verbs.specs.declared.field.Kind.TheVariants as kind
use Rattle.ftd_verbs.specs.declared.rows.Verb.{Verb}
use Rattle.ftd_cli.specs.Table.{field_text, may_be_today}
use Rattle.ftd_cli.specs.Values.{is_given, texts_in}
use Rattle.ftd_cli.specs.declared.fault.WordFault.{WordFault}
use Rattle.ftd_cli.specs.declared.fault.WordFault.TheVariants as fault
use Rattle.ftd_cli.specs.declared.table.Word.TheVariants as word

-- the form that is named so; yes or no
abbrev pub form_of : Text → Option Form
form_of text =
    if bytes_eq text (codes "941") then Some F941 else if bytes_eq text (codes "943") then Some F943
    else None

abbrev pub answer_of : Text → Option Bool
answer_of text =
    if bytes_eq text (codes "yes") then Some true
    else if bytes_eq text (codes "no") then Some false
    else None

abbrev pub in_cents : ℕ → Cents
in_cents amount = record { 0 = amount }

abbrev pub amount_of : Text → Option Cents
amount_of text = option_map in_cents (cents_of text)

-- the text stands in the place of the number of a new pay run or payment that takes the next one
abbrev pub is_next : Text → Bool
is_next text = bytes_eq text (codes "next")

-- the number that the text says as a value of this kind: where a new pay run or payment takes the
-- next number, the greatest one stands for it
abbrev pub number_said : Kind → Text → Option ℕ
number_said kind.NewNumber text =
    if is_next text then Some greatest_number else whole_number text
number_said other text = whole_number text

-- the value of a field's word, and what it spells
abbrev pub value_of : List Row → Field → Option Text
value_of rows at = first_of (field_text at) rows

abbrev pub spelled : {X : Type 0} → (Text → Option X) → List Row → Field → Option X
spelled value rows at = option_and_then value (value_of rows at)

-- the day that a word says, or today, where it is a day that may be left out and is
abbrev pub day_said : Option ℕ → Bool → Option Text → Option ℕ
day_said today or_today (Some text) = day_of text
day_said today true None = today
day_said today false None = None

-- what the words say on this day: a word for each field; a mark that is not there says no
abbrev pub words_said : Option ℕ → List Row → Said
words_said today rows = record {
  is_left_out = λ at. is_none (value_of rows at);
  text = λ at. value_of rows at;
  whole = λ at. spelled (number_said (kind_of at)) rows at;
  day = λ at. day_said today (may_be_today (word.Field at)) (value_of rows at);
  quarter = λ at. spelled spelled_quarter rows at;
  amount = λ at. spelled amount_of rows at;
  mark = λ at. Some (is_given (word.Field at) rows);
  answer = λ at. spelled answer_of rows at;
  form = λ at. spelled form_of rows at;
  days = λ at. days_of (texts_in (word.Field at) rows);
}

-- the fault of a field is that of its word
abbrev pub word_fault : FieldFault → WordFault
word_fault (field_fault.Bad at) = fault.BadWord (word.Field at)
word_fault field_fault.Memory = fault.Memory

abbrev pub told : {X : Type 0} → Result X Field → Result X WordFault
told (Ok value) = Ok value
told (Err at) = Err (fault.BadWord (word.Field at))

-- what a verb asks by these words on this day
abbrev pub request_of : Option ℕ → Verb → List Row → Result Request WordFault
request_of today verb rows = told (asked verb (words_said today rows))

-- What the fields of a record spell, and what they say of the fields of its verb.
use Rattle.std.specs.Prelude.{ℕ, zero, suc, ◌&&◌, ◌==◌, nat_lt, nat_le, Bool, true, false, List}
use Rattle.std.specs.Prelude.{length, codes, Option, Some, None, option_and_then, option_map}
use Rattle.std.specs.Prelude.{if◌then◌else◌}
use Rattle.std.specs.Option.{is_none, is_some}
use Rattle.std.specs.Str.{all_ascii_digits, bytes_eq}
use Rattle.csv.specs.Records.{field_at}
use Rattle.ftd_days.specs.Digits.{number_of}
use Rattle.ftd_days.specs.Spelling.{cents_of, day_of, spelled_quarter}
use Rattle.ftd_days.specs.declared.cents.Cents.{Cents}
use Rattle.ftd_rules.specs.Accounts.{is_account_name}
use Rattle.ftd_rules.specs.declared.Form.{Form}
use Rattle.ftd_rules.specs.declared.Form.TheVariants.{F941, F943}
use Rattle.ftd_verbs.specs.Fields.{Said}
use Rattle.ftd_verbs.specs.declared.field.Field.{Field}
use Rattle.ftd_verbs.specs.declared.field.Field.TheVariants as field
use Rattle.ftd_verbs.specs.declared.rows.Verb.{Verb}
use Rattle.ftd_verbs.specs.declared.rows.Verb.TheVariants as verb
use Rattle.ftd_csv.specs.Sheets.{column_of}
use Rattle.ftd_csv.specs.declared.sheets.Sheet.{Sheet}
use Rattle.ftd_csv.specs.declared.sheets.Sheet.TheVariants as sheet

-- the field of a number, which counts from 1
abbrev pub numbered_field : List (List ℕ) → ℕ → Option (List ℕ)
numbered_field fields zero = None
numbered_field fields (suc place) = field_at fields place

-- the name of an account, which is the text itself
unfoldable pub name_of : List ℕ → Option (List ℕ)
name_of text = if is_account_name text then Some text else None

-- 1 to 9 digits of a value of at least 1
abbrev pub is_run_number : List ℕ → Bool
is_run_number text =
    nat_lt 0 (length text) && nat_le (length text) 9 && all_ascii_digits text
    && nat_lt 0 (number_of text)

-- the number of a pay run or of a payment that the text spells
unfoldable pub run_number_of : List ℕ → Option ℕ
run_number_of text = if is_run_number text then Some (number_of text) else None

-- `yes` or `no`
unfoldable pub flag_of : List ℕ → Option Bool
flag_of text =
    if bytes_eq text (codes "yes") then Some true
    else if bytes_eq text (codes "no") then Some false else None

-- the form that is named so
unfoldable pub form_of : List ℕ → Option Form
form_of text =
    if bytes_eq text (codes "941") then Some F941
    else if bytes_eq text (codes "943") then Some F943 else None

-- the year that four digits spell
unfoldable pub year_of : List ℕ → Option ℕ
year_of text =
    if (length text == 4) && all_ascii_digits text then Some (number_of text) else None

-- a year, or the number of a pay run or of a payment
abbrev pub whole_of : Field → List ℕ → Option ℕ
whole_of field.Year text = year_of text
whole_of other text = run_number_of text

abbrev pub amount_of : List ℕ → Option Cents
amount_of text = option_map (λ amount. record { 0 = amount }) (cents_of text)

-- the text of the column that gives a field, and what it spells
abbrev pub text_in : Sheet → List (List ℕ) → Field → Option (List ℕ)
text_in kind fields at = numbered_field fields (column_of kind at)

abbrev pub spelled : {X : Type 0} → (List ℕ → Option X) → Sheet → List (List ℕ) → Field → Option X
spelled value kind fields at = option_and_then value (text_in kind fields at)

-- what a record of these fields says of the fields of its verb; no column gives days
abbrev pub said_in : Sheet → List (List ℕ) → Said
said_in kind fields = record {
  is_left_out = λ at. is_none (text_in kind fields at);
  text = λ at. spelled name_of kind fields at;
  whole = λ at. spelled (whole_of at) kind fields at;
  day = λ at. spelled day_of kind fields at;
  quarter = λ at. spelled spelled_quarter kind fields at;
  amount = λ at. spelled amount_of kind fields at;
  mark = λ at. spelled flag_of kind fields at;
  answer = λ at. spelled flag_of kind fields at;
  form = λ at. spelled form_of kind fields at;
  days = λ at. None;
}

-- what a record asks for. A total is one of a quarter, or of a year where its period spells no
-- quarter.
abbrev pub verb_of : Sheet → Said → Verb
verb_of sheet.Runs said = verb.Post
verb_of sheet.Accounts said = verb.Enrol
verb_of sheet.Totals said =
    if is_some (said.quarter field.Quarter) then verb.Report else verb.ReportYear
verb_of sheet.Payments said = verb.Pay

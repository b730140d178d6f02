-- What a verb asks by the controls of its form.
use Rattle.std.specs.Prelude.{◌==◌, ◌||◌, ℕ, Bool, false, true, List, [], codes, filter, length}
use Rattle.std.specs.Prelude.{nat_lt, Option, None, Some, option_and_then, unwrap_or, Result}
use Rattle.std.specs.Prelude.{if◌then◌else◌}
use Rattle.std.specs.List.{slice_split}
use Rattle.std.specs.Option.{is_none}
use Rattle.std.specs.Str.{bytes_eq}
use Rattle.ftd_days.specs.Spelling.{day_of, days_of, spelled_quarter, whole_number}
use Rattle.ftd_machine.specs.declared.requests.Request.{Request}
use Rattle.ftd_rules.specs.declared.Form.{Form}
use Rattle.ftd_rules.specs.declared.Form.TheVariants.{F941}
use Rattle.ftd_verbs.specs.Asked.{asked}
use Rattle.ftd_verbs.specs.Fields.{Said}
use Rattle.ftd_verbs.specs.declared.field.Field.{Field}
use Rattle.ftd_verbs.specs.declared.rows.Verb.{Verb}
use Rattle.ftd_http.specs.Controls.{Typed, text_at}
use Rattle.ftd_http.specs.Values.{amount_of, form_of}

-- yes or no
abbrev pub answer_of : List ℕ → Option Bool
answer_of text =
    if bytes_eq text (codes "yes") then Some true
    else if bytes_eq text (codes "no") then Some false
    else None

-- a box is checked where it is sent as yes, and not checked where it is not sent
abbrev pub checked : List ℕ → Option Bool
checked text = if bytes_eq text (codes "yes") then Some true else None

abbrev pub mark_of : Option (List ℕ) → Option Bool
mark_of None = Some false
mark_of (Some text) = checked text

-- the form that is chosen, Form 941 where none is
abbrev pub form_chosen : Option (List ℕ) → Option Form
form_chosen None = Some F941
form_chosen (Some text) = form_of text

-- the words of a text: what is between blanks, tabs and ends of lines
abbrev pub is_between : ℕ → Bool
is_between byte = (byte == 32) || ((byte == 9) || ((byte == 13) || (byte == 10)))

abbrev pub words_of : List ℕ → List (List ℕ)
words_of text = filter (λ word. nat_lt 0 (length word)) (slice_split is_between text)

-- the days that they spell, if each spells one
abbrev pub days_in : List ℕ → Option (List ℕ)
days_in text = days_of (words_of text)

-- what the controls say of a field: that of its name, where something was filled in
abbrev pub form_said : List Typed → Said
form_said controls = record {
  is_left_out = λ at. is_none (text_at controls at);
  text = λ at. text_at controls at;
  whole = λ at. option_and_then whole_number (text_at controls at);
  day = λ at. option_and_then day_of (text_at controls at);
  quarter = λ at. option_and_then spelled_quarter (text_at controls at);
  amount = λ at. option_and_then amount_of (text_at controls at);
  mark = λ at. mark_of (text_at controls at);
  answer = λ at. option_and_then answer_of (text_at controls at);
  form = λ at. form_chosen (text_at controls at);
  days = λ at. days_in (unwrap_or (text_at controls at) []);
}

-- what a verb asks by its form, or the first field that has no value of its kind
abbrev pub request_of_form : Verb → List Typed → Result Request Field
request_of_form verb controls = asked verb (form_said controls)

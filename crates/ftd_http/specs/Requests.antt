-- What a verb asks by the path and the body of a message.
use Rattle.std.specs.Prelude.{ℕ, ◌+◌, List, Bool, false, Option, Some, None, option_and_then}
use Rattle.std.specs.Prelude.{option_map, Result, Ok, Err}
use Rattle.std.specs.List.{position}
use Rattle.std.specs.Option.{is_none}
use Rattle.std.specs.Str.{bytes_eq}
use Rattle.serde_json.specs.Data.{Data}
use Rattle.serde_json.specs.Find.{get}
use Rattle.ftd_days.specs.Spelling.{day_of, spelled_quarter}
use Rattle.ftd_machine.specs.declared.requests.Request.{Request}
use Rattle.ftd_verbs.specs.Asked.{asked}
use Rattle.ftd_verbs.specs.FieldRows.{key_of}
use Rattle.ftd_verbs.specs.Fields.{Said}
use Rattle.ftd_verbs.specs.Rows.{PathPart, of, row_of, text}
use Rattle.ftd_verbs.specs.declared.field.Field.{Field}
use Rattle.ftd_verbs.specs.declared.rows.Verb.{Verb}
use Rattle.ftd_http.specs.Bodies.{days_at, flag_at, flag_or_false, form_or_941, json_of, text_at}
use Rattle.ftd_http.specs.Bodies.{whole_at}
use Rattle.ftd_http.specs.Paths.{part}
use Rattle.ftd_http.specs.Values.{amount_of, path_number}

-- a part of a path gives the field that has its name
abbrev pub gives : Field → PathPart → Bool
gives at (text word) = false
gives at (of given) = bytes_eq (key_of given) (key_of at)

-- the number of the part of a verb's path that gives a field, if one does: the part before the
-- first slash has the number 0
abbrev pub part_of : Verb → Field → Option ℕ
part_of verb at = option_map (λ place. place + 1) (position (gives at) (row_of verb).path)

-- by a part of the path, or by the body
abbrev pub by_part : {X : Type 0} → Option ℕ → (ℕ → X) → X → X
by_part None of_part of_body = of_body
by_part (Some number) of_part of_body = of_part number

abbrev pub text_said : Verb → List ℕ → Option Data → Field → Option (List ℕ)
text_said verb target body at =
    by_part (part_of verb at) (λ number. Some (part number target))
    (option_and_then (text_at (key_of at)) body)

-- the member of the body that has the field's name
abbrev pub member : Option Data → Field → Option Data
member body at = option_and_then (get (key_of at)) body

-- what a message says: a part of the path for each field that the path gives, and a member of the
-- body for each other. A body that is no JSON says nothing; in one that is JSON, a mark that is not
-- there says no, and a form that is not there is Form 941.
abbrev pub message_said : Verb → List ℕ → Option Data → Said
message_said verb target body = record {
  is_left_out = λ at. by_part (part_of verb at) (λ number. false) (is_none (member body at));
  text = λ at. text_said verb target body at;
  whole = λ at. by_part (part_of verb at) (λ number. path_number (part number target))
      (option_and_then (whole_at (key_of at)) body);
  day = λ at. option_and_then day_of (text_said verb target body at);
  quarter = λ at. option_and_then spelled_quarter (text_said verb target body at);
  amount = λ at. option_and_then amount_of (text_said verb target body at);
  mark = λ at. option_and_then (λ d. flag_or_false (get (key_of at) d)) body;
  answer = λ at. option_and_then (flag_at (key_of at)) body;
  form = λ at. option_and_then (λ d. form_or_941 (get (key_of at) d)) body;
  days = λ at. option_and_then (days_at (key_of at)) body;
}

-- any field that has no value of its kind is a bad form
abbrev pub in_form : {X : Type 0} → Result X Field → Option X
in_form (Ok value) = Some value
in_form (Err at) = None

-- what a verb asks by a message of this target and this body
abbrev pub request_of : Verb → List ℕ → List ℕ → Option Request
request_of verb target body = in_form (asked verb (message_said verb target (json_of body)))

-- The controls of a form, as a browser sends them.
use Rattle.std.specs.Prelude.{◌==◌, ◌&&◌, ◌||◌, ℕ, Bool, false, not, List, [], ◌∷◌, length, map}
use Rattle.std.specs.Prelude.{Option, None, Some, option_and_then, option_map, if◌then◌else◌}
use Rattle.std.specs.List.{find, list_all, list_any}
use Rattle.std.specs.Str.{bytes_eq}
use Rattle.std.specs.Str.Lossy.{utf8_lossy}
use Rattle.std.specs.String.{string_bytes}
use Rattle.form_urlencoded.specs.Form.{decode, raw_pairs}
use Rattle.ftd_verbs.specs.FieldRows.{key_of}
use Rattle.ftd_verbs.specs.Rows.{row_of}
use Rattle.ftd_verbs.specs.declared.field.Field.{Field}
use Rattle.ftd_verbs.specs.declared.rows.Verb.{Verb}
use Rattle.ftd_http.specs.declared.controls.Control.{Control}

-- a control of a form, as it was filled in: its name, and what was filled in
pub record Typed : Type 0 where
  pub name : List ℕ
  pub text : List ℕ

abbrev pub seen : Control → Typed
seen control = record { name = string_bytes control.name; text = string_bytes control.text }

-- ---- what is sent

-- a text that is coded; what is no UTF-8 becomes U+FFFD
abbrev pub text_in : List ℕ → List ℕ
text_in coded = utf8_lossy (decode coded)

abbrev pub control_in : List ℕ × List ℕ → Typed
control_in pair = record { name = text_in pair.0; text = text_in pair.1 }

-- the controls, in the order in which they are sent
abbrev pub controls_in : List ℕ → List Typed
controls_in sent = map control_in (raw_pairs sent)

-- ---- the form of a verb

-- a control has the name of a field
abbrev pub has_name : Field → Typed → Bool
has_name field control = bytes_eq control.name (key_of field)

-- the name of a control is that of a field of the verb
abbrev pub is_field : Verb → Typed → Bool
is_field verb control = list_any (λ field. has_name field control) (row_of verb).fields

-- two controls have one name
abbrev pub have_one_name : Typed → Typed → Bool
have_one_name control other = bytes_eq control.name other.name

unfoldable pub name_comes_twice : List Typed → Bool
name_comes_twice [] = false
name_comes_twice (control ∷ others) =
    list_any (have_one_name control) others || name_comes_twice others

-- the controls are those of the verb's form: the name of each is that of a field of the verb, and
-- no name comes twice
abbrev pub are_of_form : Verb → List Typed → Bool
are_of_form verb controls = list_all (is_field verb) controls && not (name_comes_twice controls)

-- ---- a field

-- what was filled in for a field: nothing, where its control is empty or is not sent
abbrev pub if_typed : List ℕ → Option (List ℕ)
if_typed text = if length text == 0 then None else Some text

abbrev pub text_at : List Typed → Field → Option (List ℕ)
text_at controls field =
    option_and_then (λ control. if_typed control.text) (find (has_name field) controls)

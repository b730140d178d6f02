-- The controls of a form.
use Rattle.std.specs.Prelude.{ℕ, Bool, true, false, List, [], ◌∷◌, ◌++◌, codes, if◌then◌else◌}
use Rattle.std.specs.Prelude.{option_map, unwrap_or}
use Rattle.std.specs.List.{concat, find}
use Rattle.std.specs.Str.{bytes_eq}
use Rattle.ftd_verbs.specs.FieldRows.{key_of, kind_of}
use Rattle.ftd_verbs.specs.declared.field.Field.{Field}
use Rattle.ftd_verbs.specs.declared.field.Kind.{Kind}
use Rattle.ftd_verbs.specs.declared.field.Kind.TheVariants as kind
use Rattle.ftd_pages.specs.Escapes.{escaped}
use Rattle.ftd_site.specs.declared.controls.Filled.{Filled}
use Rattle.ftd_site.specs.declared.controls.Options.{Options}
use Rattle.ftd_site.specs.declared.controls.Options.TheVariants.{Answers, Forms}

-- what is filled in, as a name and a text
abbrev pub pair_of : Filled → List ℕ × List ℕ
pair_of filled = (filled.name.now, filled.text.now)

-- what is filled in for a field: the first text that is given for a field of its name, or none
abbrev pub filled_in : List Filled → Field → List ℕ
filled_in filled field =
    unwrap_or
    (option_map (λ x. x.text.now) (find (λ x. bytes_eq x.name.now (key_of field)) filled)) []

-- whether a field of this kind must have a value: not where it may be left out, and not where it
-- is a mark
abbrev pub is_required : Kind → Bool
is_required kind.NumberOrNext = false
is_required kind.DayOrOther = false
is_required kind.DayOrToday = false
is_required kind.Days = false
is_required kind.Mark = false
is_required kind.Form = false
is_required _ = true

abbrev pub required_text : Bool → List ℕ
required_text true = codes " required"
required_text false = []

-- whether what is filled in has no value of the field's kind
abbrev pub invalid_text : Bool → List ℕ
invalid_text true = codes " aria-invalid=\"true\""
invalid_text false = []

-- what each control says of itself: its name, which is also its id; its help; whether it must have
-- a value; and whether it is bad, so that what is filled in is none
unfoldable pub attributes : List ℕ → Bool → Bool → List ℕ
attributes name needed bad =
    concat (codes " id=\"" ∷ name ∷ codes "\" name=\"" ∷ name ∷ codes "\" aria-describedby=\""
    ∷ name ∷ codes "-help\"" ∷ required_text needed ∷ invalid_text bad ∷ [])

abbrev pub attributes_of : Field → Bool → List ℕ
attributes_of field bad = attributes (key_of field) (is_required (kind_of field)) bad

-- a control in which a line is typed, of this type
unfoldable pub typed_start : List ℕ → List ℕ
typed_start type = concat (codes "<input type=\"" ∷ type ∷ codes "\"" ∷ [])

unfoldable pub typed : List ℕ → Field → Bool → List ℕ → List ℕ
typed type field bad text =
    typed_start type ++ (attributes_of field bad
    ++ (codes " value=\"" ++ (escaped text ++ codes "\">\n")))

-- a control in which lines are typed
unfoldable pub lines : Field → Bool → List ℕ → List ℕ
lines field bad text =
    codes "<textarea rows=\"12\"" ++ (attributes_of field bad ++ (codes ">\n" ++ (escaped text
    ++ codes "</textarea>\n")))

-- a box that is checked or not: it is where its value is filled in
abbrev pub if_same : List ℕ → List ℕ → List ℕ → List ℕ
if_same value text word = if bytes_eq value text then word else []

unfoldable pub box_end : List ℕ → List ℕ
box_end text = concat (if_same (codes "yes") text (codes " checked") ∷ codes ">\n" ∷ [])

unfoldable pub box : Field → Bool → List ℕ → List ℕ
box field bad text =
    codes "<input type=\"checkbox\" value=\"yes\"" ++ (attributes_of field bad ++ box_end text)

-- a choice, and a control with one of several to choose: the one whose value is filled in
unfoldable pub option : List ℕ → List ℕ → List ℕ → List ℕ
option value word text =
    concat (codes "<option value=\"" ∷ value ∷ codes "\"" ∷ if_same value text (codes " selected")
    ∷ codes ">" ∷ word ∷ codes "</option>\n" ∷ [])

abbrev pub options_text : Options → List ℕ → List ℕ
options_text Answers text =
    option [] (codes "Choose") text ++ (option (codes "yes") (codes "Yes") text
    ++ option (codes "no") (codes "No") text)
options_text Forms text =
    option (codes "941") (codes "Form 941") text ++ option (codes "943") (codes "Form 943") text

unfoldable pub choice : Field → Bool → Options → List ℕ → List ℕ
choice field bad options text =
    codes "<select" ++ (attributes_of field bad ++ (codes ">\n" ++ (options_text options text
    ++ codes "</select>\n")))

-- the control of a field, by the kind of its values, with what is filled in
abbrev pub control_as : Kind → Field → Bool → List ℕ → List ℕ
control_as kind.Account field bad text = typed (codes "text") field bad text
control_as kind.Number field bad text = typed (codes "number") field bad text
control_as kind.NewNumber field bad text = typed (codes "number") field bad text
control_as kind.NumberOrNext field bad text = typed (codes "number") field bad text
control_as kind.Year field bad text = typed (codes "number") field bad text
control_as kind.Day field bad text = typed (codes "date") field bad text
control_as kind.DayOrOther field bad text = typed (codes "date") field bad text
control_as kind.DayOrToday field bad text = typed (codes "date") field bad text
control_as kind.Days field bad text = lines field bad text
control_as kind.Quarter field bad text = typed (codes "text") field bad text
control_as kind.Amount field bad text = typed (codes "text") field bad text
control_as kind.Mark field bad text = box field bad text
control_as kind.Answer field bad text = choice field bad Answers text
control_as kind.Form field bad text = choice field bad Forms text

abbrev pub control_of : Field → Bool → List ℕ → List ℕ
control_of field bad text = control_as (kind_of field) field bad text

-- The members of a body.
use Rattle.std.specs.Prelude.{ℕ, List, [], ◌∷◌, Bool, false, Option, Some, None, option_and_then}
use Rattle.std.specs.Prelude.{option_map, if◌then◌else◌}
use Rattle.std.specs.Str.{is_utf8}
use Rattle.serde_json.specs.Data.{Data, Items, no_items, item}
use Rattle.serde_json.specs.Read.{read}
use Rattle.serde_json.specs.Find.{as_array, as_bool, as_number, as_str, as_u64, get}
use Rattle.ftd_days.specs.Spelling.{day_of}
use Rattle.ftd_rules.specs.declared.Form.{Form}
use Rattle.ftd_rules.specs.declared.Form.TheVariants.{F941}
use Rattle.ftd_http.specs.Values.{small, form_of}

-- a body as JSON
unfoldable pub json_of : List ℕ → Option Data
json_of body = if is_utf8 body then read body else None

-- the text at a member
abbrev pub text_at : List ℕ → Data → Option (List ℕ)
text_at key d = option_and_then as_str (get key d)

-- the whole number below 2 ^ 32 at a member
abbrev pub whole_at : List ℕ → Data → Option ℕ
whole_at key d =
    option_and_then small (option_and_then (λ v. option_and_then as_u64 (as_number v)) (get key d))

-- the truth value at a member, false where the member is missing
abbrev pub flag_or_false : Option Data → Option Bool
flag_or_false None = Some false
flag_or_false (Some d) = as_bool d

-- the truth value at a member, which has to be there
abbrev pub flag_at : List ℕ → Data → Option Bool
flag_at key d = option_and_then as_bool (get key d)

-- the days that the items of an array spell, if each of them is a text that spells one
abbrev pub days_in : Items → Option (List ℕ)
days_in no_items = Some []
days_in (item d ds) =
    option_and_then (λ day. option_map (λ days. day ∷ days) (days_in ds))
    (option_and_then day_of (as_str d))

abbrev pub days_at : List ℕ → Data → Option (List ℕ)
days_at key d = option_and_then days_in (option_and_then as_array (get key d))

-- the form that a member names, Form 941 where the member is missing
abbrev pub form_or_941 : Option Data → Option Form
form_or_941 None = Some F941
form_or_941 (Some d) = option_and_then form_of (as_str d)

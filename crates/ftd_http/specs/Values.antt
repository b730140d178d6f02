-- Values in paths and bodies.
use Rattle.std.specs.Prelude.{ℕ, ◌^◌, nat_lt, List, Option, Some, None, option_and_then, option_map}
use Rattle.std.specs.Prelude.{codes, if◌then◌else◌}
use Rattle.std.specs.Str.{bytes_eq}
use Rattle.ftd_days.specs.Spelling.{cents_of}
use Rattle.ftd_days.specs.declared.cents.Cents.{Cents}
use Rattle.ftd_rules.specs.declared.Form.{Form}
use Rattle.ftd_rules.specs.declared.Form.TheVariants.{F941, F943}
use Rattle.ftd_http.specs.Heads.{number_in}

-- a number below 2 ^ 32
abbrev pub small : ℕ → Option ℕ
small n = if nat_lt n (2 ^ 32) then Some n else None

-- the number of a path: 1 to 10 digits of a value below 2 ^ 32
unfoldable pub path_number : List ℕ → Option ℕ
path_number text = option_and_then small (number_in text)

-- the amount that the text spells
abbrev pub in_cents : ℕ → Cents
in_cents amount = record { 0 = amount }

abbrev pub amount_of : List ℕ → Option Cents
amount_of text = option_map in_cents (cents_of text)

-- the form that the text names
abbrev pub form_of : List ℕ → Option Form
form_of text =
    if bytes_eq text (codes "941") then Some F941 else if bytes_eq text (codes "943") then Some F943
    else None

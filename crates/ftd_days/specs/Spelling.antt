-- The amount, the day, the quarter and the whole number that a text spells, as functions of the
-- text. Of the first three Text says the same as relations (`laws::a_spelling_is_read`).
use Rattle.std.specs.Prelude.{ℕ, zero, suc, ◌+◌, ◌*◌, ◌^◌, ◌==◌, ◌&&◌, nat_lt, nat_le, List, []}
use Rattle.std.specs.Prelude.{◌∷◌, length, take, drop, Option, Some, None, option_map}
use Rattle.std.specs.Prelude.{option_and_then, if◌then◌else◌}
use Rattle.std.specs.List.{prefix_len}
use Rattle.std.specs.Char.{is_ascii_digit}
use Rattle.std.specs.Str.{all_ascii_digits, bytes_eq}
use Rattle.std.specs.Str.Parse.{without_leading_plus}
use Rattle.ftd_days.specs.declared.limits.TheConstants.{QUARTERS}
use Rattle.ftd_days.specs.Calendar.{last_day}
use Rattle.ftd_days.specs.Digits.{number_of}
use Rattle.ftd_days.specs.Text.{day_text, quarter_text}

-- of so many values from one on, the one that is printed as the text
unfoldable pub printed_among : (ℕ → List ℕ) → ℕ → ℕ → List ℕ → Option ℕ
printed_among print zero from text = None
printed_among print (suc more) from text =
    if bytes_eq (print from) text then Some from else printed_among print more (from + 1) text

-- the day that the text spells: of all days the one that is printed so
unfoldable pub day_of : List ℕ → Option ℕ
day_of text = printed_among day_text (last_day + 1) 0 text

-- the quarter that the text spells: of all quarters the one that is printed so
unfoldable pub spelled_quarter : List ℕ → Option ℕ
spelled_quarter text = printed_among quarter_text QUARTERS 0 text

-- the cents after the dollars: none, or a point and one digit of tenths, or a point and two digits
abbrev pub fraction_of : List ℕ → Option ℕ
fraction_of [] = Some 0
fraction_of (point ∷ digits) =
    if (point == 46) && all_ascii_digits digits
    then (if length digits == 1 then Some (10 * number_of digits) else if length digits == 2
    then Some (number_of digits) else None)
    else None

-- the amount that the text spells: the digits that it begins with are the dollars, one to nine of
-- them
unfoldable pub cents_of : List ℕ → Option ℕ
cents_of text =
    let count = prefix_len is_ascii_digit text in
    if nat_lt 0 count && nat_le count 9
    then option_map (λ cents. 100 * number_of (take count text) + cents)
    (fraction_of (drop count text))
    else None

-- the whole number up to 4,294,967,295 that the text spells: digits, perhaps after a plus sign
unfoldable pub whole_number : List ℕ → Option ℕ
whole_number text =
    let digits = without_leading_plus text in
    if nat_lt 0 (length digits) && all_ascii_digits digits && nat_lt (number_of digits) (2 ^ 32)
    then Some (number_of digits) else None

-- the days that the texts spell, if each spells one
abbrev pub days_of : List (List ℕ) → Option (List ℕ)
days_of [] = Some []
days_of (text ∷ texts) =
    option_and_then (λ day. option_map (λ days. day ∷ days) (days_of texts)) (day_of text)

-- Texts in which a character that can steer a terminal stands as its bytes, each as `\x1b`.
use Rattle.std.specs.Prelude.{ℕ, ◌+◌, ◌/◌, ◌%◌, ◌&&◌, ◌||◌, ◌==◌, nat_lt, not, List, [], ◌∷◌, Bool}
use Rattle.std.specs.Prelude.{true, false, if◌then◌else◌}
use Rattle.std.specs.List.{flat_map}
use Rattle.std.specs.Char.{encode_utf8}
use Rattle.std.specs.Str.{chars}

-- it lies between these two, which count too
abbrev pub is_between : (first last : ℕ) → ℕ → Bool
is_between first last character = not (nat_lt character first) && not (nat_lt last character)

-- a control character: U+0000 to U+001F, U+007F to U+009F
abbrev pub is_control : ℕ → Bool
is_control character = nat_lt character 32 || is_between 127 159 character

-- a character that turns or ends lines, or can't be seen: the marks and ends of directions, U+061C,
-- U+200B to U+200F, U+202A to U+202E and U+2066 to U+2069; the ends of lines and paragraphs, U+2028
-- and U+2029; and the mark of a byte order, U+FEFF
abbrev pub is_hidden : ℕ → Bool
is_hidden character =
    (character == 1564) || (is_between 8203 8207 character || (is_between 8232 8238 character
    || (is_between 8294 8297 character || (character == 65279))))

-- a character that can steer a terminal; in a text of several lines a line end is none
abbrev pub steers : (lines : Bool) → ℕ → Bool
steers lines character =
    not (lines && (character == 10)) && (is_control character || is_hidden character)

-- the digit of a number below 16: 0 to 9, a to f
abbrev pub hex_digit : ℕ → ℕ
hex_digit number = if nat_lt number 10 then 48 + number else 87 + number

-- a byte as `\x` and its two digits
abbrev pub hex_byte : ℕ → List ℕ
hex_byte byte = 92 ∷ 120 ∷ hex_digit (byte / 16) ∷ hex_digit (byte % 16) ∷ []

-- a character, or its bytes, each in that way
abbrev pub escaped_character : (lines : Bool) → ℕ → List ℕ
escaped_character lines character =
    if steers lines character then flat_map hex_byte (encode_utf8 character)
    else encode_utf8 character

-- character for character
abbrev pub escaped_as : (lines : Bool) → List ℕ → List ℕ
escaped_as lines text = flat_map (escaped_character lines) (chars text)

-- a text, whose line ends stay
abbrev pub escaped : List ℕ → List ℕ
escaped text = escaped_as true text

-- a word, which stands in one line
abbrev pub escaped_word : List ℕ → List ℕ
escaped_word text = escaped_as false text

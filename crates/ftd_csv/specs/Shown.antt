-- What a hint shows of a text.
use Rattle.std.specs.Prelude.{ℕ, Bool, ◌&&◌, nat_le, if◌then◌else◌, List, map, take}
use Rattle.ftd_csv.specs.declared.shown.TheConstants.{MOST_SHOWN}

-- printable ASCII: from the space to `~`
abbrev pub is_printable : ℕ → Bool
is_printable byte = nat_le 32 byte && nat_le byte 126

-- the byte, or `?` for one that is not printable ASCII
abbrev pub shown_byte : ℕ → ℕ
shown_byte byte = if is_printable byte then byte else 63

-- the first 60 bytes of the text, with a `?` for each that is not printable ASCII
unfoldable pub shown : List ℕ → List ℕ
shown text = map shown_byte (take MOST_SHOWN text)

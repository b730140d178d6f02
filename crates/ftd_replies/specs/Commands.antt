-- Commands to be typed, in hints.
use Rattle.std.specs.Prelude.{ℕ, ◌==◌, ◌||◌, ◌&&◌, not, false, Bool, List, [], ◌∷◌, codes}
use Rattle.std.specs.Prelude.{if◌then◌else◌}
use Rattle.std.specs.Char.{is_ascii_alphanumeric}
use Rattle.std.specs.List.{concat, list_all}

-- the file, where its name needs no quotes: letters, digits, `.`, `_`, `/` and `-` alone, of which
-- the first is no `-`, since such a word is an option
abbrev pub is_plain : ℕ → Bool
is_plain byte =
    is_ascii_alphanumeric byte || (byte == 46) || (byte == 95) || (byte == 47) || (byte == 45)

abbrev pub is_bare : List ℕ → Bool
is_bare [] = false
is_bare (first ∷ rest) = not (first == 45) && list_all is_plain (first ∷ rest)

abbrev pub file_text : List ℕ → List ℕ
file_text db = if is_bare db then db else codes "FILE"

-- a command on the file, with one word behind it, or with an account and another word
abbrev pub command_on : List ℕ → List ℕ → List ℕ → List ℕ → List ℕ
command_on before db word after =
    concat (before ∷ file_text db ∷ codes " " ∷ word ∷ after ∷ [])

abbrev pub command_of : List ℕ → List ℕ → List ℕ → List ℕ → List ℕ → List ℕ
command_of before db account word after =
    concat (before ∷ file_text db ∷ codes " " ∷ account ∷ codes " " ∷ word ∷ after ∷ [])

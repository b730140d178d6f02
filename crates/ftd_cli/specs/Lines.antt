-- The lines of a shell, and the commands that they stand for.
use Rattle.std.specs.Prelude.{◌≡◌, ◌==◌, ◌||◌, [], ◌∷◌, ◌++◌, ℕ, Bool, List, None, Option, Some}
use Rattle.std.specs.Prelude.{codes, filter, false, if◌then◌else◌, length, map, nat_lt, true}
use Rattle.std.specs.Prelude.{◌≢◌, ◌<◌, ◌≤◌, ◌&&◌, IfSome}
use Rattle.std.specs.Io.BufRead.{drop_through, first_piece}
use Rattle.std.specs.List.{join_by, list_all, slice_split}
use Rattle.std.specs.Str.{bytes_eq, is_utf8}
use Rattle.std.specs.String.{string_bytes}
use Rattle.ftd_cli.specs.Escapes.{escaped_word}
use Rattle.ftd_cli.specs.Table.{takes_file}
use Rattle.ftd_cli.specs.Tasks.{command_named}
use Rattle.ftd_cli.specs.declared.table.Name.{Name}
use Rattle.ftd_cli.specs.declared.lines.Piece.{Piece}
use Rattle.ftd_cli.specs.declared.lines.Piece.TheVariants.{End, Line, TooLong}
use Rattle.ftd_cli.specs.declared.lines.TheConstants.{MOST_LINE}
use Rattle.ftd_cli.specs.declared.lines.Line.{Line as Said}
use Rattle.ftd_cli.specs.declared.lines.Line.TheVariants.{Nothing, Command, NoText}

-- what stands between words: a blank, a tab, or the carriage return of a line's end
abbrev pub is_blank : ℕ → Bool
is_blank byte = (byte == 32) || ((byte == 9) || (byte == 13))

-- the words of a line: what stands between these
abbrev pub parts_of : List ℕ → List (List ℕ)
parts_of line = filter (λ part. nat_lt 0 (length part)) (slice_split is_blank line)

-- the same without the program's name, if that is the first of them
abbrev pub without_program : List (List ℕ) → List (List ℕ)
without_program [] = []
without_program (word ∷ words) = if bytes_eq word (codes "ftd") then words else word ∷ words

abbrev pub line_of : List ℕ → List (List ℕ)
line_of line = without_program (parts_of line)

-- a line asks nothing where it has no word, or where its first word begins with `#`
abbrev pub begins_comment : List ℕ → Bool
begins_comment [] = false
begins_comment (byte ∷ bytes) = byte == 35

abbrev pub asks_nothing : List (List ℕ) → Bool
asks_nothing [] = true
asks_nothing (word ∷ words) = begins_comment word

-- the words are texts
abbrev pub text_in : List ℕ → Option (List ℕ)
text_in word = if is_utf8 word then Some word else None

abbrev pub are_texts : List (List ℕ) → Bool
are_texts words = list_all is_utf8 words

-- what a line of these words is
abbrev pub IsLine : List (List ℕ) → Said → Type 0
IsLine words Nothing = asks_nothing words ≡ true
IsLine words (Command said) =
    (asks_nothing words ≡ false) × (map string_bytes said.items ≡ words)
IsLine words NoText = (asks_nothing words ≡ false) × (are_texts words ≡ false)

-- all the words were added as texts, or one of them is none
abbrev pub TakesTexts : List (List ℕ) → List (List ℕ) → List (List ℕ) → Bool → Type 0
TakesTexts parts old new true = (new ≡ old ++ parts) × (are_texts parts ≡ true)
TakesTexts parts old new false = are_texts parts ≡ false

-- the command that is named so takes the file of a desk
abbrev pub takes_file_if : Option Name → Bool
takes_file_if None = false
takes_file_if (Some name) = takes_file name

abbrev pub is_with_file : List ℕ → Bool
is_with_file name = takes_file_if (command_named name)

-- the words behind a command without the file, where they name this one first, as a hint does
abbrev pub without_file : List ℕ → List (List ℕ) → List (List ℕ)
without_file db (option ∷ (file ∷ rest)) =
    if bytes_eq option (codes "--db") && bytes_eq file db then rest else option ∷ file ∷ rest
without_file db words = words

-- the words of the command line that the words of a line stand for: a command that takes the file
-- of a desk is given this one
abbrev pub command_words : List ℕ → List (List ℕ) → List (List ℕ)
command_words db [] = codes "ftd" ∷ []
command_words db (name ∷ rest) =
    codes "ftd" ∷ name ∷ (if is_with_file name
    then (codes "--db=" ++ db) ∷ codes "--wait=0" ∷ without_file db rest else rest)

-- the words as they are shown: a blank between two of them, and each control byte as `\x1b`
abbrev pub shown_words : List (List ℕ) → List ℕ
shown_words words = escaped_word (join_by (λ word. word) (codes " ") words)

-- ---- the lines of a script

-- the line that bytes begin with, without its end, and what comes after it
abbrev pub first_line : List ℕ → List ℕ
first_line bytes = first_piece 10 bytes

abbrev pub after_line : List ℕ → List ℕ
after_line bytes = drop_through 10 bytes

-- what comes next in these bytes, of which these are left then
abbrev pub IsNext : List ℕ → Option (List ℕ) → Piece → Type 0
IsNext bytes left End = (bytes ≡ []) × (left ≡ Some [])
IsNext bytes left (Line line) =
    (bytes ≢ []) × (line.items ≡ first_line bytes) × (length line.items ≤ MOST_LINE)
    × (left ≡ Some (after_line bytes))
IsNext bytes left TooLong =
    (bytes ≢ []) × (MOST_LINE < length (first_line bytes)) × (left ≡ Some (after_line bytes))

abbrev pub NextOf : Option (List ℕ) → Option (List ℕ) → Piece → Type 0
NextOf before after piece = IfSome before (λ bytes. IsNext bytes after piece)

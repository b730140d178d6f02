-- The file that the environment names, where a command line names none.
use Rattle.std.specs.Prelude.{◌==◌, ◌&&◌, ◌||◌, ◌∷◌, ◌++◌, ℕ, Bool, List, codes, not}
use Rattle.std.specs.Prelude.{if◌then◌else◌}
use Rattle.std.specs.List.{list_any, starts_with}
use Rattle.std.specs.Str.{bytes_eq}
use Rattle.ftd_cli.specs.Lines.{is_with_file}

-- the word names the file of a desk
abbrev pub names_file : List ℕ → Bool
names_file word =
    bytes_eq word (codes "--db") || starts_with (λ a b. a == b) word (codes "--db=")

-- the command takes the file of a desk, and none of its words names one
abbrev pub wants_file : List ℕ → List (List ℕ) → Bool
wants_file name rest = is_with_file name && not (list_any names_file rest)

-- the words of a command line, with this file where its command takes one and names none
abbrev pub with_file : List ℕ → List (List ℕ) → List (List ℕ)
with_file file (program ∷ name ∷ rest) =
    if wants_file name rest then program ∷ name ∷ (codes "--db=" ++ file) ∷ rest
    else program ∷ name ∷ rest
with_file file other = other

-- What is shown of a line of a script beside its answer.
use Rattle.std.specs.Prelude.{ℕ, List, [], ◌∷◌, ◌++◌, codes, if◌then◌else◌}
use Rattle.std.specs.Fmt.{decimal}
use Rattle.ftd_script.specs.declared.shown.Shows.{Shows}

-- a command, as it is shown
abbrev pub command_text : List ℕ → List ℕ
command_text shown = codes "$ ftd " ++ (shown ++ codes "\n")

-- the same before its answer, where commands are shown
abbrev pub echo_text : Shows → List ℕ → List ℕ
echo_text shows shown = if shows.commands then command_text shown else []

-- the line, and below it what was said of it on standard error; nothing where nothing was said
abbrev pub named_text : ℕ → List ℕ → List ℕ → List ℕ
named_text number shown [] = []
named_text number shown (byte ∷ said) =
    codes "line " ++ (decimal number ++ (codes ": " ++ (shown ++ (codes "\n" ++ (byte ∷ said)))))

abbrev pub said_text : Shows → ℕ → List ℕ → List ℕ → List ℕ
said_text shows number shown said =
    if shows.lines then named_text number shown said else said

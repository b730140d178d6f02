-- The hint of a header, by whether the text has a first line.
use Rattle.std.proofs.Common.{◌≡◌, ◌≢◌, ℕ, List, [], ◌∷◌, ◌++◌, length, refl, arith}
use Rattle.std.specs.Prelude.{codes}
use Rattle.ftd_csv.specs.declared.sheets.Sheet.{Sheet}
use Rattle.ftd_csv.specs.Headers.{first_line, header_hint, header_text, line_text}
use Rattle.ftd_csv.specs.Shown.{shown}

no_bytes : (line : List ℕ) → length line ≡ 0 → line ≡ []
no_bytes [] e = refl
no_bytes (byte ∷ line) e = absurd (omega arith)

-- there is none
pub of_empty : (kind : Sheet) (text line : List ℕ) → line ≡ first_line text → length line ≡ 0
    → header_hint kind text
    ≡ codes "hint: the header is " ++ (header_text kind ++ (codes ", and the text is empty"
    ++ codes "\n"))
unfolding header_hint
of_empty kind text line is empty = rw (← is, no_bytes line empty) refl

said_line : (line : List ℕ) → length line ≢ 0
    → line_text line ++ 10 ∷ [] ≡ codes "not " ++ (shown line ++ 10 ∷ [])
said_line [] some = absurd (some refl)
said_line (byte ∷ line) some = refl

-- there is one
pub of_line : (kind : Sheet) (text line : List ℕ) → line ≡ first_line text → length line ≢ 0
    → header_hint kind text
    ≡ codes "hint: the header is " ++ (header_text kind ++ (codes ", and not "
    ++ (shown line ++ codes "\n")))
unfolding header_hint
of_line kind text line is some = rw (← is, said_line line some) refl

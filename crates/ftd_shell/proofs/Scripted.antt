-- What was read of a script, piece by piece.
use Rattle.std.proofs.Common.{◌≡◌, ℕ, List, [], ◌∷◌, ◌++◌, Option, Some, None, refl, subst}
use Rattle.std.specs.Prelude.{IfSome}
use Rattle.ftd_cli.specs.Lines.{IsNext, NextOf, after_line}
use Rattle.ftd_cli.specs.declared.lines.Piece.{Piece}
use Rattle.ftd_cli.specs.declared.lines.Piece.TheVariants.{End, Line, TooLong}
use Rattle.ftd_shell.specs.Scripts.{BeginsWith}

-- where the bytes are known, they begin with what was read, and these are left
abbrev pub Left : List Piece → Option (List ℕ) → Option (List ℕ) → Type 0
Left lines bytes left =
    IfSome bytes (λ all. (rest : List ℕ) × BeginsWith all lines rest × (left ≡ Some rest))

-- what is left behind a piece
left_after : (rest : List ℕ) (after : Option (List ℕ)) (piece : Piece) → IsNext rest after piece
    → (left : List ℕ) × (after ≡ Some left)
left_after rest after End is = ([], is.1)
left_after rest after (Line line) is = (after_line rest, is.3)
left_after rest after TooLong is = (after_line rest, is.2)

known_more : (all : List ℕ) (lines : List Piece) (before after : Option (List ℕ)) (piece : Piece)
    → Left lines (Some all) before → NextOf before after piece
    → Left (piece ∷ lines) (Some all) after
known_more all lines before after piece left next =
    let rest = left.0 in
    let is : IsNext rest after piece = subst (λ b. NextOf b after piece) left.2 next in
    let more = left_after rest after piece is in
    (more.0, (rest, left.1, subst (λ a. IsNext rest a piece) more.1 is), more.1)

pub left_more : (lines : List Piece) (bytes before after : Option (List ℕ)) (piece : Piece)
    → Left lines bytes before → NextOf before after piece → Left (piece ∷ lines) bytes after
left_more lines None before after piece left next = left
left_more lines (Some all) before after piece left next =
    known_more all lines before after piece left next

pub left_none : (bytes : Option (List ℕ)) → Left [] bytes bytes
left_none None = tt
left_none (Some all) = (all, refl, refl)

-- they begin with it
pub begins : (lines : List Piece) (bytes left : Option (List ℕ)) → Left lines bytes left
    → IfSome bytes (λ all. (rest : List ℕ) × BeginsWith all lines rest)
begins lines None left is = is
begins lines (Some all) left is = (is.0, is.1)

-- and with the earlier part of it
begins_less : (all : List ℕ) (later lines : List Piece) (left : List ℕ)
    → BeginsWith all (later ++ lines) left → (rest : List ℕ) × BeginsWith all lines rest
begins_less all [] lines left is = (left, is)
begins_less all (piece ∷ later) lines left is = begins_less all later lines is.0 is.1

pub begins_before : (later lines : List Piece) (bytes left : Option (List ℕ))
    → Left (later ++ lines) bytes left
    → IfSome bytes (λ all. (rest : List ℕ) × BeginsWith all lines rest)
begins_before later lines None left is = is
begins_before later lines (Some all) left is = begins_less all later lines is.0 is.1

-- and at the end there is no more
pub ended : (lines : List Piece) (bytes left after : Option (List ℕ)) → Left lines bytes left
    → NextOf left after End → IfSome bytes (λ all. BeginsWith all lines [])
ended lines None left after is next = is
ended lines (Some all) left after is next =
    let at_end : IsNext is.0 after End = subst (λ b. NextOf b after End) is.2 next in
    subst (BeginsWith all lines) at_end.0 is.1

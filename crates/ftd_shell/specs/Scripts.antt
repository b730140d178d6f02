-- What a shell answers to a script: its lines, each alone or some together, one after the other.
use Rattle.std.specs.Prelude.{◌≡◌, ◌≤◌, ◌+◌, ℕ, Bool, false, true, List, [], ◌∷◌, ◌++◌, length}
use Rattle.std.specs.Prelude.{All, Err, IfSome, Ok, Option, Some, flat_map, map, reverse}
use Rattle.sqlite.specs.Store as store
use Rattle.ftd_machine.specs.declared.replies.Refusal.TheVariants.{Store}
use Rattle.ftd_desk.specs.Desks.{held}
use Rattle.ftd_desk.specs.Telling.{StandsAsBefore}
use Rattle.ftd_desk.specs.Unrefused.{IsReply}
use Rattle.ftd_desk.specs.Words.{HandlesTogether}
use Rattle.ftd_desk.specs.declared.desk.Desk.{Desk}
use Rattle.ftd_cli.specs.Lines.{IsNext}
use Rattle.ftd_cli.specs.declared.lines.Piece.{Piece}
use Rattle.ftd_shell.specs.Listed.{AskEach, Asked, Entered, HasItsNote, TellsEach, TellsNext}
use Rattle.ftd_shell.specs.Listed.{answers_of, asked_of, broken_of, requests_of}
use Rattle.ftd_shell.specs.Shells.{AnswersNext, TellsLine, Ways}
use Rattle.ftd_script.specs.Statuses.{greater, is_last}
use Rattle.ftd_program.specs.declared.performing.JobEnd.{JobEnd}

-- ---- turns

-- what was done with lines of a script: one was answered alone; some were answered together; some
-- were asked together, and nothing of it kept, so that they are answered alone later; some were
-- asked together, and the commit failed
pub data Turn : Type 0 where
  alone : Piece → Turn
  together : List Piece → Turn
  dropped : Turn
  broken : List Piece → Turn

-- the lines with which a turn is done, the last first
abbrev pub lines_in : Turn → List Piece
lines_in (alone line) = line ∷ []
lines_in (together lines) = reverse lines
lines_in dropped = []
lines_in (broken lines) = reverse lines

-- and those of turns, the last first
abbrev pub lines_of : List Turn → List Piece
lines_of [] = []
lines_of (turn ∷ earlier) = lines_in turn ++ lines_of earlier

module _ {S O E : Type 0} (g : store.Ghosts S) (o_taken : O → Option (List ℕ)) (o_failed : O → Bool)
    (e_taken : E → Option (List ℕ)) (e_failed : E → Bool) where
  module _ (before p : JobEnd O E) (old new : Desk S) (ways : Ways) (number : ℕ)
      (lines : List Piece) where
    -- what the lines ask was asked together, and what is asked after each; each was answered with a
    -- reply, and what they change is kept; and each was told, the first under this number
    pub record AnswersTogether : Type 0 where
      pub entered : List Entered
      pub asked : AskEach ways lines (map (λ it. it.asked) entered)
      pub notes : All HasItsNote entered
      pub replies : All (λ it. IsReply it.answer) entered
      pub handles : HandlesTogether (held g old) (held g new) (flat_map asked_of entered)
          (Ok (flat_map answers_of entered))
      pub tells : TellsEach o_taken o_failed e_taken e_failed before p ways number entered

    -- what the lines ask was asked together, and the commit failed: the first of them is told that
    -- the store has, and no other is answered
    pub record BreaksTogether : Type 0 where
      pub first : Asked
      pub later : List Asked
      pub asked : AskEach ways lines (first ∷ later)
      pub handles : HandlesTogether (held g old) (held g new)
          (flat_map requests_of (first ∷ later)) (Err Store)
      pub tells : TellsNext o_taken o_failed e_taken e_failed before p ways number (broken_of first)

  -- a turn was done, after so many lines
  abbrev pub AnswersTurn : JobEnd O E → JobEnd O E → Desk S → Desk S → Ways → ℕ → Turn → Type 0
  AnswersTurn before p old new ways count (alone line) =
      AnswersNext g o_taken o_failed e_taken e_failed before p old new ways (count + 1) line
  AnswersTurn before p old new ways count (together lines) =
      AnswersTogether before p old new ways (count + 1) lines
  AnswersTurn before p old new ways count dropped =
      (p ≡ before) × StandsAsBefore (held g old) (held g new)
  AnswersTurn before p old new ways count (broken lines) =
      BreaksTogether before p old new ways (count + 1) lines

  -- turns, the last first, were done one after the other, and none after the line that is the last
  abbrev pub AnswersLines
      : Bool → JobEnd O E → JobEnd O E → Desk S → Desk S → Ways → List Turn → Type 0
  AnswersLines has_stop start p old new ways [] = (new ≡ old) × (p ≡ start)
  AnswersLines has_stop start p old new ways (turn ∷ earlier) =
      (between : Desk S) × (before : JobEnd O E)
      × AnswersLines has_stop start before old between ways earlier
      × (is_last has_stop before.status ≡ false)
      × AnswersTurn before p between new ways (length (lines_of earlier)) turn

-- ---- scripts

-- the bytes begin with what was read, the last first, and these are left of them
abbrev pub BeginsWith : List ℕ → List Piece → List ℕ → Type 0
BeginsWith bytes [] left = left ≡ bytes
BeginsWith bytes (piece ∷ earlier) left =
    (before : List ℕ) × BeginsWith bytes earlier before × IsNext before (Some left) piece

-- a script could not be read further, after these answers: why is told
abbrev pub EndsUnread : {O E : Type 0} → (E → Option (List ℕ)) → (E → Bool) → (end p : JobEnd O E)
    → ℕ → List ℕ → Type 0
EndsUnread e_taken e_failed end p status said =
    TellsLine e_taken e_failed end.out end.err p (greater end.status status) said

-- the most lines that a script is read for
abbrev pub most_lines : ℕ
most_lines = 18_446_744_073_709_551_614

module _ {O E : Type 0} (e_taken : E → Option (List ℕ)) (e_failed : E → Bool) where
  -- why no more lines were answered after these: the script has no more; or the last of them was to
  -- be the last; or the script's source has failed; or so many were answered
  pub data HasEnded (bytes : Option (List ℕ)) (failed has_stop : Bool) (lines : List Piece)
      (end p : JobEnd O E) : Type 0 where
    whole : p ≡ end → IfSome bytes (λ all. BeginsWith all lines [])
        → HasEnded bytes failed has_stop lines end p
    last : p ≡ end → is_last has_stop end.status ≡ true
        → HasEnded bytes failed has_stop lines end p
    unread : (status : ℕ) (said : List ℕ) → failed ≡ true
        → EndsUnread e_taken e_failed end p status said
        → HasEnded bytes failed has_stop lines end p
    full : p ≡ end → most_lines ≤ length lines → HasEnded bytes failed has_stop lines end p

module _ {S O E : Type 0} (g : store.Ghosts S) (o_taken : O → Option (List ℕ)) (o_failed : O → Bool)
    (e_taken : E → Option (List ℕ)) (e_failed : E → Bool)
    (out : O) (err : E) (p : JobEnd O E) where
  -- lines of a script were answered one after the other, each alone or some together, as many as
  -- the script has, or up to the last; where its bytes are known, they are those with which it
  -- begins
  pub record AnswersScript (old new : Desk S) (ways : Ways) (bytes : Option (List ℕ))
      (failed has_stop : Bool) : Type 0 where
    pub turns : List Turn
    pub end : JobEnd O E
    pub answers : AnswersLines g o_taken o_failed e_taken e_failed has_stop
        (record { status = 0; out = out; err = err }) end old new ways turns
    pub begins : IfSome bytes (λ all. (left : List ℕ) × BeginsWith all (lines_of turns) left)
    pub ends : HasEnded e_taken e_failed bytes failed has_stop (lines_of turns) end p

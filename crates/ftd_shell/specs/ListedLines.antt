-- What listed lines are told by, and how they are answered after others.
use Rattle.std.specs.Prelude.{◌≡◌, ◌+◌, ◌++◌, [], ℕ, Bool, false, true, List, Option, None, Some}
use Rattle.std.specs.Prelude.{Err, MatchBool, Ok, is_some, length, option_map, reverse}
use Rattle.sqlite.specs.Store as store
use Rattle.ftd_machine.specs.Checks.{Answer}
use Rattle.ftd_machine.specs.Questions.{question_of}
use Rattle.ftd_machine.specs.declared.replies.Reply.TheVariants as reply
use Rattle.ftd_machine.specs.declared.requests.Request.{Request}
use Rattle.ftd_desk.specs.declared.desk.Desk.{Desk}
use Rattle.ftd_cli.specs.declared.lines.Piece.{Piece}
use Rattle.ftd_replies.specs.Notes.{asked_when_done}
use Rattle.ftd_shell.specs.Listed.{Asked, Entered}
use Rattle.ftd_shell.specs.Scripts.{AnswersLines, EndsUnread, Turn, lines_of}
use Rattle.ftd_shell.specs.Shells.{AnswersNext, Ways}
use Rattle.ftd_script.specs.Statuses.{is_last}
use Rattle.ftd_shell.specs.Understanding.{Holds, Understands, pieces_in}
use Rattle.ftd_shell.specs.declared.listed.Listed.{Listed}
use Rattle.ftd_program.specs.declared.performing.JobEnd.{JobEnd}
use Rattle.ftd_shell.specs.declared.told.FirstTold.{FirstTold}
use Rattle.ftd_shell.specs.declared.told.Told.{Told}
use Rattle.ftd_shell.specs.declared.understood.Understood.{Understood}

-- the request was done
abbrev pub is_done : Answer → Bool
is_done (Ok reply.Done) = true
is_done (Ok reply.Already) = false
is_done (Ok (reply.Posted difference)) = false
is_done (Ok (reply.Told facts)) = false
is_done (Err refusal) = false

-- this is what was asked and answered for a line, and it is no question
pub record IsOf (told : Told) (entered : Entered) : Type 0 where
  pub request_is : told.request.now ≡ entered.asked.request
  pub answer_is : told.answer.now ≡ entered.answer
  pub note_is : option_map (λ note. note.now) told.note ≡ entered.note
  pub asked_after : is_some entered.note ≡ true
      → is_some (asked_when_done entered.asked.request) ≡ true
  pub no_question : question_of entered.asked.request ≡ None

-- the first of what was asked and answered, and what comes after it
abbrev pub GivesFirst : Entered → List Request → List Answer → Option FirstTold → Type 0
GivesFirst entered requests answers None = ⊥
GivesFirst entered requests answers (Some given) =
    IsOf given.told entered × (given.requests.now ≡ requests) × (given.answers.now ≡ answers)

module _ {S O E : Type 0} (g : store.Ghosts S) (o_taken : O → Option (List ℕ)) (o_failed : O → Bool)
    (e_taken : E → Option (List ℕ)) (e_failed : E → Bool) where
  -- what was understood so was answered after these answers; or there was nothing to answer
  abbrev pub AnswersAlone : JobEnd O E → JobEnd O E → Desk S → Desk S → Ways → ℕ
      → Option Understood → Type 0
  AnswersAlone before p old new ways number None = (new ≡ old) × (p ≡ before)
  AnswersAlone before p old new ways number (Some given) =
      (line : Piece) → Understands ways line given
      → AnswersNext g o_taken o_failed e_taken e_failed before p old new ways number line

module _ {S O E : Type 0} (g : store.Ghosts S) (o_taken : O → Option (List ℕ)) (o_failed : O → Bool)
    (e_taken : E → Option (List ℕ)) (e_failed : E → Bool) (has_stop : Bool) where
  -- after these turns more were done, with lines that come next: with all of them, unless one was
  -- the last
  pub record AnswersMore (start p : JobEnd O E) (first new : Desk S) (ways : Ways)
      (turns : List Turn) (lines : List Piece) : Type 0 where
    pub more : List Turn
    pub answers : AnswersLines g o_taken o_failed e_taken e_failed has_stop start p first new ways
        more
    pub unanswered : List Piece
    pub all : reverse lines ++ lines_of turns ≡ unanswered ++ lines_of more
    pub none_left : is_last has_stop p.status ≡ false → unanswered ≡ []

  -- lines that are listed were answered after any others
  abbrev pub AnswersListed : JobEnd O E → JobEnd O E → Desk S → Desk S → Ways → Listed → Type 0
  AnswersListed before p old new ways listed =
      (start : JobEnd O E) → (first : Desk S) → (turns : List Turn) → (asked : List Asked)
      → AnswersLines g o_taken o_failed e_taken e_failed has_stop start before first old ways turns
      → is_last has_stop before.status ≡ false
      → Holds ways (length (lines_of turns) + 1) listed asked
      → AnswersMore start p first new ways turns (pieces_in listed)

  -- then one of them is the last, or why the script could not be read further was told
  pub record EndsListed (before p : JobEnd O E) (old new : Desk S) (ways : Ways) (listed : Listed)
      (status : ℕ) (said : List ℕ) : Type 0 where
    pub end : JobEnd O E
    pub answers : AnswersListed before end old new ways listed
    pub ends : MatchBool (is_last has_stop end.status) (p ≡ end)
        (EndsUnread e_taken e_failed end p status said)

  -- listed lines were answered, and one of them is the last; or none is, what was to be answered
  -- alone was answered after them, if anything was, and no line is listed any more
  pub data AnswersAfter (before p : JobEnd O E) (old new : Desk S) (ways : Ways) (number : ℕ)
      (alone : Option Understood) (listed left : Listed) : Type 0 where
    ended : AnswersListed before p old new ways listed → is_last has_stop p.status ≡ true
        → AnswersAfter before p old new ways number alone listed left
    answered : (end : JobEnd O E) (now : Desk S) → AnswersListed before end old now ways listed
        → is_last has_stop end.status ≡ false → left.lines.items ≡ [] → left.requests.items ≡ []
        → AnswersAlone g o_taken o_failed e_taken e_failed end p now new ways number alone
        → AnswersAfter before p old new ways number alone listed left

  -- they were; or they wait for the next line
  pub data AnswersTaken (before p : JobEnd O E) (old new : Desk S) (ways : Ways) (number : ℕ)
      (alone : Option Understood) (listed left : Listed) : Type 0 where
    waited : alone ≡ None → p ≡ before → new ≡ old → left ≡ listed
        → AnswersTaken before p old new ways number alone listed left
    went_on : AnswersAfter before p old new ways number alone listed left
        → AnswersTaken before p old new ways number alone listed left

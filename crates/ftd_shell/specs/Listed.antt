-- What a shell asks of the desk for lines that it lists, and what it tells of the answers.
use Rattle.std.specs.Prelude.{◌≡◌, ◌==◌, ◌+◌, ℕ, Bool, false, List, [], ◌∷◌, MatchBool, Ok, Err}
use Rattle.std.specs.Prelude.{Option, None, Some, is_some}
use Rattle.std.specs.Global.{Vec}
use Rattle.std.specs.List.{AllZip}
use Rattle.std.specs.Io.KnownBytes.{Appends}
use Rattle.ftd_ports.specs.Ports.{has_failed}
use Rattle.ftd_ports.specs.declared.port.Port.{Port}
use Rattle.ftd_verbs.specs.declared.formats.AnswerFormat.{AnswerFormat}
use Rattle.ftd_machine.specs.Checks.{Answer}
use Rattle.ftd_machine.specs.Questions.{question_of}
use Rattle.ftd_machine.specs.declared.replies.Refusal.TheVariants.{Store}
use Rattle.ftd_machine.specs.declared.requests.Request.{Request}
use Rattle.ftd_cli.specs.Clocks.{DecidesOn}
use Rattle.ftd_cli.specs.Lines.{asks_nothing, command_words, line_of, shown_words}
use Rattle.ftd_cli.specs.declared.lines.Piece.{Piece}
use Rattle.ftd_cli.specs.declared.lines.Piece.TheVariants as piece
use Rattle.ftd_cli.specs.declared.tasks.Job.TheVariants as job
use Rattle.ftd_cli.specs.declared.tasks.Task.{Task}
use Rattle.ftd_replies.specs.Notes.{asked_when_done}
use Rattle.ftd_replies.specs.Putting.{IsPut}
use Rattle.ftd_replies.specs.declared.hints.HintFacts.TheVariants.{Nothing}
use Rattle.ftd_program.specs.Performing.{FailsOutput, Prints, PutsNote, asked_then}
use Rattle.ftd_shell.specs.Shells.{Ways, said_by, said_in}
use Rattle.ftd_script.specs.Jobs.{job_of}
use Rattle.ftd_script.specs.Shown.{echo_text, said_text}
use Rattle.ftd_script.specs.Statuses.{greater}
use Rattle.ftd_program.specs.declared.performing.JobEnd.{JobEnd}

-- ---- what is asked

-- what a line asks of the desk: its words, the format in which a reply is told, and its request
pub record Asked : Type 0 where
  pub words : List (List ℕ)
  pub format : AnswerFormat
  pub request : Request

-- the words of the line ask this, on a day that the clock told, and it is no question
pub record IsAsked (ways : Ways) (given : Piece) (asked : Asked) : Type 0 where
  pub line : Vec ℕ
  pub is_line : given ≡ piece.Line line
  pub words_are : line_of line.items ≡ asked.words
  pub asks : asks_nothing asked.words ≡ false
  pub task : Task
  pub today : Option ℕ
  pub decides : DecidesOn today (command_words ways.db asked.words) (Ok task)
  pub does : job_of ways.does_imports task ≡ Some (job.Ask asked.format asked.request)
  pub no_question : question_of asked.request ≡ None

-- each of the lines asks one of these
abbrev pub AskEach : Ways → List Piece → List Asked → Type 0
AskEach ways lines asked = AllZip (IsAsked ways) lines asked

abbrev pub in_list : {A : Type 0} → Option A → List A
in_list None = []
in_list (Some x) = x ∷ []

-- the desk is asked the request, and then what it is asked after that was done, if it is
abbrev pub requests_of : Asked → List Request
requests_of asked = asked.request ∷ in_list (asked_when_done asked.request)

-- ---- what is answered

-- what was asked, the answer to it, and the answer to what is asked after it
pub record Entered : Type 0 where
  pub asked : Asked
  pub answer : Answer
  pub note : Option Answer

-- there is such an answer if something is asked after it
abbrev pub HasItsNote : Entered → Type 0
HasItsNote entered = is_some entered.note ≡ is_some (asked_when_done entered.asked.request)

abbrev pub answers_of : Entered → List Answer
answers_of entered = entered.answer ∷ in_list entered.note

abbrev pub asked_of : Entered → List Request
asked_of entered = requests_of entered.asked

-- the commit of what was asked has failed
abbrev pub broken_of : Asked → Entered
broken_of asked = record { asked = asked; answer = Err Store; note = None }

-- ---- what is told

-- what is said of an answer to a question was put below what was printed
abbrev pub PutsBelow : {O E : Type 0} → (E → Option (List ℕ)) → (E → Bool) → (first p : JobEnd O E)
    → List ℕ → Answer → Type 0
PutsBelow {E = E} e_taken e_failed first p db answer =
    (noted : E) × PutsNote e_taken e_failed first.err noted db answer
    × (p ≡ record first { err = noted })

-- it was, where the question is asked after what was printed, and that was the text of a reply
abbrev pub NotesGiven : {O E : Type 0} → (E → Option (List ℕ)) → (E → Bool) → (first p : JobEnd O E)
    → List ℕ → Option Request → Option Answer → Type 0
NotesGiven e_taken e_failed first p db (Some question) (Some answer) =
    MatchBool (first.status == 0) (PutsBelow e_taken e_failed first p db answer) (p ≡ first)
NotesGiven e_taken e_failed first p db question given = p ≡ first

module _ {O E : Type 0} (o_taken : O → Option (List ℕ)) (o_failed : O → Bool)
    (e_taken : E → Option (List ℕ)) (e_failed : E → Bool) where
  module _ (out : O) (err : E) (p : JobEnd O E) where
    -- the answer was printed, and below it what is said of the answer to what was asked after it
    pub record TellsAnswer (db : List ℕ) (entered : Entered) : Type 0 where
      pub first : JobEnd O E
      pub prints : Prints o_taken o_failed e_taken e_failed out err first db entered.asked.format
          entered.asked.request Nothing entered.answer
      pub notes : NotesGiven e_taken e_failed first p db
          (asked_then entered.asked.request entered.answer) entered.note

module _ {O E : Type 0} (o_taken : O → Option (List ℕ)) (o_failed : O → Bool)
    (e_taken : E → Option (List ℕ)) (e_failed : E → Bool) where
  module _ (out : O) (err : E) (p : JobEnd O E) where
    -- the words of a line were shown, where commands are, and its answer told; what was said of it
    -- on standard error was put there, below the line where lines are shown
    pub record IsTold (ways : Ways) (number : ℕ) (entered : Entered) : Type 0 where
      pub shown : O
      pub shows : Appends (o_taken out) (o_taken shown)
          (echo_text ways.shows (shown_words entered.asked.words))
      pub unsaid : Port (Vec ℕ)
      pub is_unsaid : said_in unsaid ≡ []
      pub end : JobEnd O (Port (Vec ℕ))
      pub tells : TellsAnswer o_taken o_failed said_by has_failed shown unsaid end ways.db entered
      pub status_is : p.status ≡ end.status
      pub out_is : p.out ≡ end.out
      pub puts : IsPut (e_taken err) (e_taken p.err) (e_failed p.err)
          (said_text ways.shows number (shown_words entered.asked.words) (said_in end.err))

    -- a line was told so; or its words could not be shown
    pub data TellsEntered (ways : Ways) (number : ℕ) (entered : Entered) : Type 0 where
      told : IsTold ways number entered → TellsEntered ways number entered
      unshown : FailsOutput o_taken o_failed e_taken e_failed out err p
          (echo_text ways.shows (shown_words entered.asked.words))
          → TellsEntered ways number entered

  -- after these answers, with the greatest status of all
  abbrev pub TellsNext : JobEnd O E → JobEnd O E → Ways → ℕ → Entered → Type 0
  TellsNext before p ways number entered =
      (end : JobEnd O E) × TellsEntered before.out before.err end ways number entered
      × (p ≡ record end { status = greater before.status end.status })

  -- lines were told one after the other, the first under this number, and none after one at which
  -- standard output failed
  abbrev pub TellsEach : JobEnd O E → JobEnd O E → Ways → ℕ → List Entered → Type 0
  TellsEach before p ways number [] = p ≡ before
  TellsEach before p ways number (entered ∷ later) =
      (end : JobEnd O E) × TellsNext before end ways number entered
      × MatchBool (end.status == 3) (p ≡ end) (TellsEach end p ways (number + 1) later)

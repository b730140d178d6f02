-- What a shell answers: the lines of a script, each as its command.
use Rattle.std.specs.Prelude.{◌≡◌, ℕ, Bool, false, true, List, [], MatchResult, Option, None}
use Rattle.std.specs.Prelude.{Some, Err, Ok, Result, codes}
use Rattle.std.specs.Global.{Vec}
use Rattle.std.specs.Io.KnownBytes.{Appends}
use Rattle.std.specs.String.{string_bytes}
use Rattle.sqlite.specs.Store as store
use Rattle.ftd_ports.specs.Ports.{has_failed, inner_of}
use Rattle.ftd_ports.specs.declared.port.Port.{Port}
use Rattle.ftd_desk.specs.declared.desk.Desk.{Desk}
use Rattle.ftd_cli.specs.Lines.{are_texts, asks_nothing, command_words, line_of}
use Rattle.ftd_cli.specs.Lines.{shown_words}
use Rattle.ftd_cli.specs.Clocks.{DecidesOn}
use Rattle.ftd_cli.specs.declared.lines.Piece.{Piece}
use Rattle.ftd_cli.specs.declared.lines.Piece.TheVariants as piece
use Rattle.ftd_cli.specs.declared.tasks.CliFault.{CliFault}
use Rattle.ftd_cli.specs.declared.tasks.Job.{Job}
use Rattle.ftd_cli.specs.declared.tasks.Task.{Task}
use Rattle.ftd_replies.specs.Putting.{IsPut}
use Rattle.ftd_replies.specs.Telling.{Tells}
use Rattle.ftd_program.specs.Doing.{Does}
use Rattle.ftd_program.specs.Performing.{FailsOutput}
use Rattle.ftd_program.specs.declared.performing.JobEnd.{JobEnd}
use Rattle.ftd_script.specs.Jobs.{job_of, reads_file}
use Rattle.ftd_script.specs.Shown.{echo_text, said_text}
use Rattle.ftd_script.specs.Statuses.{greater}
use Rattle.ftd_script.specs.declared.shown.Shows.{Shows}
use Rattle.ftd_shell.specs.declared.shell.Shell.{Shell}

-- what stays the same in a shell: the file of its desk, as hints name it, whether it does imports,
-- and what it shows
pub record Ways : Type 0 where
  pub db : List ℕ
  pub does_imports : Bool
  pub shows : Shows

abbrev pub ways_of : {S F : Type 0} → Shell S F → Ways
ways_of shell = record {
  db = string_bytes shell.db;
  does_imports = shell.does_imports;
  shows = shell.shows;
}

-- ---- texts

-- what is told of a command that is none of a shell
abbrev pub not_here : List ℕ
not_here = codes "error: this is no command of the shell\n"

-- what is told of a line with a word that is no text, and of one that is too long
abbrev pub no_text : List ℕ
no_text = codes "error: a word is no text\n"

abbrev pub too_long : List ℕ
too_long = codes "error: the line has more than 65536 bytes\n"

-- ---- a port over bytes in memory, which keeps what is said of a line

abbrev pub said_in : Port (Vec ℕ) → List ℕ
said_in port = (inner_of port).items

abbrev pub said_by : Port (Vec ℕ) → Option (List ℕ)
said_by port = Some (said_in port)

module _ {O E : Type 0} (e_taken : E → Option (List ℕ)) (e_failed : E → Bool)
    (out : O) (err : E) (p : JobEnd O E) where
  -- one line on standard error
  pub record TellsLine (status : ℕ) (text : List ℕ) : Type 0 where
    pub status_is : p.status ≡ status
    pub out_is : p.out ≡ out
    pub line : IsPut (e_taken err) (e_taken p.err) (e_failed p.err) text

  abbrev pub HasNoMemory : Type 0
  HasNoMemory = TellsLine 3 (codes "failed 21 Memory\n")

  -- what is wrong with a line that is not shown
  abbrev pub TellsBad : Shows → ℕ → List ℕ → Type 0
  TellsBad shows number said = TellsLine 2 (said_text shows number (codes "..") said)

module _ {S O E : Type 0} (g : store.Ghosts S) (o_taken : O → Option (List ℕ)) (o_failed : O → Bool)
    (e_taken : E → Option (List ℕ)) (e_failed : E → Bool)
    (out : O) (err : E) (p : JobEnd O E) where
  -- the job was done, with what its file has; or the file could not be read
  pub data DoesJob (old new : Desk S) (db : List ℕ) (asked : Job) : Type 0 where
    did : (input : List ℕ)
        → Does g o_taken o_failed e_taken e_failed out err p old new input db asked
        → DoesJob old new db asked
    unread : (status : ℕ) (said : List ℕ) → reads_file asked ≡ true → new ≡ old
        → TellsLine e_taken e_failed out err p status said → DoesJob old new db asked

  -- what a shell does not do is told to be none of its commands
  abbrev pub DoesIfAny : Desk S → Desk S → List ℕ → Option Job → Type 0
  DoesIfAny old new db (Some asked) = DoesJob old new db asked
  DoesIfAny old new db None = (new ≡ old) × TellsLine e_taken e_failed out err p 2 not_here

  -- what was decided of words was done and told: the job that a shell does of it, or the fault
  abbrev pub DoesAsked : Desk S → Desk S → List ℕ → Result (Option Job) CliFault → Type 0
  DoesAsked old new db (Ok asked) = DoesIfAny old new db asked
  DoesAsked old new db (Err fault) =
      (new ≡ old) × Tells o_taken o_failed e_taken e_failed out p.out err p.err fault p.status

  -- what the words of a command ask was done and told, as by the command itself, on the day that
  -- the clock told
  pub record AnswersCommand (old new : Desk S) (ways : Ways) (words : List (List ℕ)) : Type 0
    where
      pub decided : Result Task CliFault
      pub today : Option ℕ
      pub gives : DecidesOn today words decided
      pub does : MatchResult decided
          (λ given. DoesIfAny old new ways.db (job_of ways.does_imports given))
          (λ f. (new ≡ old)
          × Tells o_taken o_failed e_taken e_failed out p.out err p.err f p.status)

module _ {S O E : Type 0} (g : store.Ghosts S) (o_taken : O → Option (List ℕ)) (o_failed : O → Bool)
    (e_taken : E → Option (List ℕ)) (e_failed : E → Bool) where
  module _ (out : O) (err : E) (p : JobEnd O E) where
    -- the words of a line were shown, where commands are, and answered as the command for which
    -- they stand, with the desk in its file; what was said of them on standard error was put there,
    -- below the line where lines are shown
    pub record IsAnswered (old new : Desk S) (ways : Ways) (number : ℕ) (words : List (List ℕ))
        : Type 0 where
      pub shown : O
      pub shows : Appends (o_taken out) (o_taken shown) (echo_text ways.shows (shown_words words))
      pub unsaid : Port (Vec ℕ)
      pub is_unsaid : said_in unsaid ≡ []
      pub end : JobEnd O (Port (Vec ℕ))
      pub answers : AnswersCommand g o_taken o_failed said_by has_failed shown unsaid end old new
          ways (command_words ways.db words)
      pub status_is : p.status ≡ end.status
      pub out_is : p.out ≡ end.out
      pub puts : IsPut (e_taken err) (e_taken p.err) (e_failed p.err)
          (said_text ways.shows number (shown_words words) (said_in end.err))

    -- the words of a line were answered; or they could not be shown; or there was no memory
    pub data AnswersWords (old new : Desk S) (ways : Ways) (number : ℕ) (words : List (List ℕ))
        : Type 0 where
      answered : IsAnswered old new ways number words → AnswersWords old new ways number words
      unshown : new ≡ old
          → FailsOutput o_taken o_failed e_taken e_failed out err p
          (echo_text ways.shows (shown_words words)) → AnswersWords old new ways number words
      no_memory : new ≡ old → HasNoMemory e_taken e_failed out err p
          → AnswersWords old new ways number words

    -- a line: it asks nothing; or its words are texts, and were answered; or one is none; or there
    -- was no memory
    pub data AnswersLine (old new : Desk S) (ways : Ways) (number : ℕ) (line : List ℕ)
        : Type 0 where
      nothing : asks_nothing (line_of line) ≡ true → new ≡ old
          → p ≡ record { status = 0; out = out; err = err }
          → AnswersLine old new ways number line
      words : asks_nothing (line_of line) ≡ false → AnswersWords old new ways number (line_of line)
          → AnswersLine old new ways number line
      bad : are_texts (line_of line) ≡ false → new ≡ old
          → TellsBad e_taken e_failed out err p ways.shows number no_text
          → AnswersLine old new ways number line
      no_memory : new ≡ old → HasNoMemory e_taken e_failed out err p
          → AnswersLine old new ways number line

    -- what came next in a script: its end, a line, or a line that was skipped
    abbrev pub AnswersPiece : Desk S → Desk S → Ways → ℕ → Piece → Type 0
    AnswersPiece old new ways number piece.End =
        (new ≡ old) × (p ≡ record { status = 0; out = out; err = err })
    AnswersPiece old new ways number (piece.Line line) = AnswersLine old new ways number line.items
    AnswersPiece old new ways number piece.TooLong =
        (new ≡ old) × TellsBad e_taken e_failed out err p ways.shows number too_long

  -- after these answers, with the greatest status of all
  abbrev pub AnswersNext : JobEnd O E → JobEnd O E → Desk S → Desk S → Ways → ℕ → Piece → Type 0
  AnswersNext before p old new ways number piece =
      (end : JobEnd O E) × AnswersPiece before.out before.err end old new ways number piece
      × (p ≡ record end { status = greater before.status end.status })

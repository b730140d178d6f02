-- How lines are understood, and answered alone.
use Rattle.std.proofs.Common.{◌≡◌, ◌∙◌, ℕ, Bool, List, ap, arith, refl, subst, sym}
use Rattle.std.proofs.Common.{None, Some, Option, Ok, Err, Result, String, Global, false, inr, true}
use Rattle.std.specs.Prelude.{MatchResult}
use Rattle.std.specs.String.{string_bytes}
use Rattle.sqlite.specs.Store as store
use Rattle.ftd_desk.specs.declared.desk.Desk.{Desk}
use Rattle.ftd_cli.specs.Clocks.{DecidesOn}
use Rattle.ftd_cli.specs.Asking.{ask}
use Rattle.ftd_cli.specs.Lines.{command_words, line_of, shown_words}
use Rattle.ftd_cli.specs.declared.lines.Piece.{Piece}
use Rattle.ftd_cli.specs.declared.lines.Piece.TheVariants as piece
use Rattle.ftd_cli.specs.declared.tasks.CliFault.{CliFault}
use Rattle.ftd_cli.specs.declared.tasks.Job.{Job}
use Rattle.ftd_cli.specs.declared.tasks.Job.TheVariants as job
use Rattle.ftd_cli.specs.declared.tasks.Task.{Task}
use Rattle.ftd_cli.specs.declared.tasks.Task.TheVariants as task
use Rattle.ftd_verbs.specs.Formats.{as_text}
use Rattle.ftd_machine.specs.declared.requests.Request.{Request}
use Rattle.ftd_replies.specs.LineRequests.{AlwaysAsk}
use Rattle.ftd_replies.specs.Telling.{Tells}
use Rattle.ftd_shell.specs.Listed.{Asked, IsAsked}
use Rattle.ftd_shell.specs.Shells.{AnswersCommand, AnswersPiece, AnswersWords}
use Rattle.ftd_shell.specs.Shells.{DoesAsked, DoesIfAny, HasNoMemory, TellsBad, Ways}
use Rattle.ftd_script.specs.Jobs.{job_of}
use Rattle.ftd_shell.specs.Shells.{no_text, too_long}
use Rattle.ftd_shell.specs.Shells as shells
use Rattle.ftd_shell.specs.Understanding.{AsksJob, Understands, UnderstandsWords, UnderstoodAs}
use Rattle.ftd_shell.specs.Understanding.{words_of}
use Rattle.ftd_script.specs.Jobs.{job_asked}
use Rattle.ftd_program.specs.declared.performing.JobEnd.{JobEnd}
use Rattle.ftd_shell.specs.declared.understood.Entry.{Entry}
use Rattle.ftd_shell.specs.declared.understood.Understood.{Understood}
use Rattle.ftd_shell.specs.declared.understood.Understood.TheVariants as understood
use Rattle.ftd_shell.specs.declared.understood.Words.{Words}

-- ---- what words ask

pub understood_words : (ways : Ways) (words : List (List ℕ)) (said : Words) (given : Understood)
    → UnderstoodAs said given → string_bytes said.shown ≡ shown_words words
    → AsksJob ways words said.asked → UnderstandsWords ways words given
understood_words ways words said (understood.Enters entry) is shows asks = (
  sym (ap (λ (x : Words). string_bytes x.shown) is.0) ∙ shows,
  subst (λ (x : Words). AsksJob ways words x.asked) is.0 asks,
  is.1,
)
understood_words ways words said (understood.Asks given) is shows asks =
    subst (λ (x : Words). (string_bytes x.shown ≡ shown_words words) × AsksJob ways words x.asked)
    (sym is) (shows, asks)
understood_words ways words said understood.NoMemory is shows asks = tt
understood_words ways words said understood.Nothing is shows asks = absurd is
understood_words ways words said understood.NoText is shows asks = absurd is
understood_words ways words said understood.TooLong is shows asks = absurd is

-- words that ask a request whatever day it is, and whatever the file, ask it in a shell
always_asks : (ways : Ways) (db : String Global) (words : List (List ℕ)) (asked : Request)
    → string_bytes db ≡ ways.db → AlwaysAsk words asked
    → AsksJob ways words (Ok (Some (job.Ask as_text asked)))
always_asks ways db words asked is asks = record {
  decided = Ok (task.Local (record { db = db; wait = 0; job = job.Ask as_text asked }));
  today = None;
  decides = inr (asks None ways.db ∙ ap (λ file. Ok (ask file 0 as_text asked)) (sym is));
  asked_is = for_all ways.does_imports;
}
  where
    for_all : (b : Bool)
        → Ok (Some (job.Ask as_text asked))
        ≡ job_asked b (Ok (task.Local (record { db = db; wait = 0; job = job.Ask as_text asked })))
    for_all true = refl
    for_all false = refl

-- so they are understood as the line that asks it
pub always_understood : (ways : Ways) (db shown : String Global) (words : List (List ℕ)) (asked : Request)
    (given : Understood) → string_bytes db ≡ ways.db → string_bytes shown ≡ shown_words words
    → AlwaysAsk words asked
    → UnderstoodAs (record { shown = shown; asked = Ok (Some (job.Ask as_text asked)) }) given
    → UnderstandsWords ways words given
always_understood ways db shown words asked given is shows asks understood =
    understood_words ways words (record { shown = shown; asked = Ok (Some (job.Ask as_text asked)) })
    given understood shows (always_asks ways db words asked is asks)

-- ---- a line that may be listed

-- what an entry asks
pub record IsEntry (entry : Entry) (asked : Asked) : Type 0 where
  pub shown_is : string_bytes entry.shown ≡ shown_words asked.words
  pub format_is : entry.format ≡ asked.format
  pub request_is : entry.request ≡ asked.request

-- which of them it is
abbrev kind : Understood → ℕ
kind understood.Nothing = 0
kind understood.NoText = 1
kind understood.TooLong = 2
kind understood.NoMemory = 3
kind (understood.Enters entry) = 4
kind (understood.Asks words) = 5

abbrev value_of : Result (Option Job) CliFault → Option Job
value_of (Ok asked) = asked
value_of (Err fault) = None

abbrev HasValue : Result (Option Job) CliFault → Type 0
HasValue (Ok asked) = Unit
HasValue (Err fault) = ⊥

-- the task of which a job is asked
record OfTask (does_imports : Bool) (decided : Result Task CliFault) (asked : Option Job) : Type 0
  where
    pub task : Task
    pub decided_is : decided ≡ Ok task
    pub does : job_of does_imports task ≡ asked

of_task : (does_imports : Bool) (decided : Result Task CliFault) (asked : Option Job)
    → Ok asked ≡ job_asked does_imports decided → OfTask does_imports decided asked
of_task does_imports (Ok task) asked is = record {
  task = task;
  decided_is = refl;
  does = sym (ap value_of is);
}
of_task does_imports (Err fault) asked is = absurd (subst HasValue is tt)

abbrev asked_by : Entry → List (List ℕ) → Asked
asked_by entry words = record { words = words; format = entry.format; request = entry.request }

-- what comes next is a line that asks it
pub entry_asked : (ways : Ways) (given : Piece) (entry : Entry)
    → Understands ways given (understood.Enters entry)
    → (asked : Asked) × IsAsked ways given asked × IsEntry entry asked
entry_asked ways piece.End entry is = absurd (let e : 4 ≡ 0 = ap kind is in omega (arith, e))
entry_asked ways piece.TooLong entry is = absurd (let e : 4 ≡ 2 = ap kind is in omega (arith, e))
entry_asked ways (piece.Line line) entry is =
    let words = line_of line.items in
    let asks = is.1.1 in
    let found = of_task ways.does_imports asks.decided
    (Some (job.Ask entry.format entry.request)) asks.asked_is in (
      asked_by entry words,
      record {
        line = line;
        is_line = refl;
        words_are = refl;
        asks = is.0;
        task = found.task;
        today = asks.today;
        decides = subst (DecidesOn asks.today (command_words ways.db words)) found.decided_is
            asks.decides;
        does = found.does;
        no_question = is.1.2;
      },
      record { shown_is = is.1.0; format_is = refl; request_is = refl },
    )

-- ---- answers

module _ {S O E : Type 0} (g : store.Ghosts S) (o_taken : O → Option (List ℕ)) (o_failed : O → Bool)
    (e_taken : E → Option (List ℕ)) (e_failed : E → Bool) where
  module _ (out : O) (err : E) (p : JobEnd O E) (old new : Desk S) (ways : Ways) where
    abbrev Given : List (List ℕ) → Type 0
    Given words = AnswersCommand g o_taken o_failed e_taken e_failed out err p old new ways
        (command_words ways.db words)

    decided_does : (decided : Result Task CliFault)
        → DoesAsked g o_taken o_failed e_taken e_failed out err p old new ways.db
        (job_asked ways.does_imports decided)
        → MatchResult decided
        (λ given. DoesIfAny g o_taken o_failed e_taken e_failed out err p old new ways.db
        (job_of ways.does_imports given))
        (λ f. (new ≡ old)
        × Tells o_taken o_failed e_taken e_failed out p.out err p.err f p.status)
    decided_does (Ok task) does = does
    decided_does (Err fault) does = does

    -- what words ask was done and told
    pub asked_does : (words : List (List ℕ)) (asked : Result (Option Job) CliFault)
        → AsksJob ways words asked
        → DoesAsked g o_taken o_failed e_taken e_failed out err p old new ways.db asked
        → Given words
    asked_does words asked asks does = record {
      decided = asks.decided;
      today = asks.today;
      gives = asks.decides;
      does = decided_does asks.decided
          (subst (DoesAsked g o_taken o_failed e_taken e_failed out err p old new ways.db)
          asks.asked_is does);
    }

  module _ (out : O) (err : E) (p : JobEnd O E) (old new : Desk S) (ways : Ways) (number : ℕ) where
    abbrev AnswersOne : Piece → Type 0
    AnswersOne given = AnswersPiece g o_taken o_failed e_taken e_failed out err p old new ways
        number given

    abbrev AnswersSaid : List (List ℕ) → Type 0
    AnswersSaid words = AnswersWords g o_taken o_failed e_taken e_failed out err p old new ways
        number words

    pub nothing_answers : (given : Piece) → Understands ways given understood.Nothing → new ≡ old
        → p ≡ record { status = 0; out = out; err = err } → AnswersOne given
    nothing_answers piece.End is stays same = (stays, same)
    nothing_answers (piece.Line line) is stays same = shells.nothing is stays same
    nothing_answers piece.TooLong is stays same =
        absurd (let e : 0 ≡ 2 = ap kind is in omega (arith, e))

    pub no_text_answers : (given : Piece) → Understands ways given understood.NoText → new ≡ old
        → TellsBad e_taken e_failed out err p ways.shows number no_text → AnswersOne given
    no_text_answers piece.End is stays tells =
        absurd (let e : 1 ≡ 0 = ap kind is in omega (arith, e))
    no_text_answers (piece.Line line) is stays tells = shells.bad is stays tells
    no_text_answers piece.TooLong is stays tells =
        absurd (let e : 1 ≡ 2 = ap kind is in omega (arith, e))

    pub too_long_answers : (given : Piece) → Understands ways given understood.TooLong → new ≡ old
        → TellsBad e_taken e_failed out err p ways.shows number too_long → AnswersOne given
    too_long_answers piece.End is stays tells =
        absurd (let e : 2 ≡ 0 = ap kind is in omega (arith, e))
    too_long_answers (piece.Line line) is stays tells = absurd is
    too_long_answers piece.TooLong is stays tells = (stays, tells)

    pub no_memory_answers : (given : Piece) → Understands ways given understood.NoMemory
        → new ≡ old → HasNoMemory e_taken e_failed out err p → AnswersOne given
    no_memory_answers piece.End is stays tells =
        absurd (let e : 3 ≡ 0 = ap kind is in omega (arith, e))
    no_memory_answers (piece.Line line) is stays tells = shells.AnswersLine.no_memory stays tells
    no_memory_answers piece.TooLong is stays tells =
        absurd (let e : 3 ≡ 2 = ap kind is in omega (arith, e))

    pub words_answer : (given : Piece) (words : Words)
        → Understands ways given (understood.Asks words)
        → ((said : List (List ℕ)) → string_bytes words.shown ≡ shown_words said
        → AsksJob ways said words.asked → AnswersSaid said) → AnswersOne given
    words_answer piece.End words is answers =
        absurd (let e : 5 ≡ 0 = ap kind is in omega (arith, e))
    words_answer (piece.Line line) words is answers =
        shells.words is.0 (answers (line_of line.items) is.1.0 is.1.1)
    words_answer piece.TooLong words is answers =
        absurd (let e : 5 ≡ 2 = ap kind is in omega (arith, e))

    pub entry_answers : (given : Piece) (entry : Entry) (words : Words) → words ≡ words_of entry
        → Understands ways given (understood.Enters entry)
        → ((said : List (List ℕ)) → string_bytes words.shown ≡ shown_words said
        → AsksJob ways said words.asked → AnswersSaid said) → AnswersOne given
    entry_answers piece.End entry words same is answers =
        absurd (let e : 4 ≡ 0 = ap kind is in omega (arith, e))
    entry_answers (piece.Line line) entry words same is answers =
        let said = line_of line.items in
        let shown : string_bytes words.shown ≡ shown_words said =
        ap (λ (x : Words). string_bytes x.shown) same ∙ is.1.0 in
        let asks : AsksJob ways said words.asked =
        subst (λ (x : Words). AsksJob ways said x.asked) (sym same) is.1.1 in
        shells.words is.0 (answers said shown asks)
    entry_answers piece.TooLong entry words same is answers =
        absurd (let e : 4 ≡ 2 = ap kind is in omega (arith, e))

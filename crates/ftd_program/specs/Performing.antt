-- What the program prints of an answer, and its exit status.
use Rattle.std.specs.Prelude.{◌≡◌, ◌≢◌, ◌==◌, ◌⊎◌, ℕ, Bool, true, false, List, Option, Result}
use Rattle.std.specs.Prelude.{Some, None, MatchBool, MatchResult, Ok, Err, [], ◌∷◌, codes}
use Rattle.std.specs.Prelude.{◌<◌, ◌≤◌, ◌-◌, min}
use Rattle.std.specs.Fmt.{decimal}
use Rattle.std.specs.List.{concat}
use Rattle.std.specs.Io.KnownBytes.{Appends}
use Rattle.ftd_ports.specs.Writing.{WritesPrefix}
use Rattle.sqlite.specs.State.{HasCleanDisk}
use Rattle.sqlite.specs.Store as store
use Rattle.ftd_rules.specs.declared.verdict.DueRow.{DueRow}
use Rattle.ftd_answers.specs.DueLists.{due_text}
use Rattle.ftd_machine.specs.State.{State}
use Rattle.ftd_machine.specs.Runs.{IsFault}
use Rattle.ftd_machine.specs.Checks.{Answer}
use Rattle.ftd_machine.specs.declared.replies.Refusal.{Refusal}
use Rattle.ftd_machine.specs.declared.replies.Reply.TheVariants as reply
use Rattle.ftd_machine.specs.declared.requests.Request.{Request}
use Rattle.ftd_machine.specs.Step.{with_number}
use Rattle.ftd_machine.specs.Questions.{question_of}
use Rattle.ftd_machine.specs.declared.requests.Question.{Question as Questions}
use Rattle.ftd_machine.specs.declared.requests.Question.TheVariants.{DueList}
use Rattle.ftd_machine.specs.declared.requests.Request.TheVariants.{Pay, Post, Question}
use Rattle.ftd_questions.specs.Shown.{ShowsRows}
use Rattle.ftd_questions.specs.Telling.{Replies, Refuses}
use Rattle.ftd_questions.specs.Walks.{StandIfOpen}
use Rattle.ftd_sql.specs.Standing.{Tables}
use Rattle.ftd_desk.specs.Desks.{Held, IsStopped, Keeps, held}
use Rattle.ftd_desk.specs.declared.desk.Desk.{Desk}
use Rattle.ftd_desk.specs.Telling.{StandsAsBefore}
use Rattle.ftd_desk.specs.Words.{Handles}
use Rattle.ftd_csv.specs.declared.sheets.Sheet.{Sheet}
use Rattle.ftd_imports.specs.Added.{added_by}
use Rattle.ftd_imports.specs.Imports.{Imports, Stops}
use Rattle.ftd_imports.specs.Trials.{FailsTrial, WouldImport}
use Rattle.ftd_imports.specs.declared.summary.StopCause.{StopCause}
use Rattle.ftd_imports.specs.declared.summary.ImportStop.{ImportStop}
use Rattle.ftd_imports.specs.declared.summary.Summary.{Summary}
use Rattle.ftd_verbs.specs.Asked.{greatest_number}
use Rattle.ftd_verbs.specs.Formats.{as_text}
use Rattle.ftd_verbs.specs.declared.formats.AnswerFormat.{AnswerFormat}
use Rattle.ftd_verbs.specs.declared.formats.AnswerFormat.TheVariants.{Plain, Page}
use Rattle.ftd_csv.specs.Hints.{record_hints}
use Rattle.ftd_replies.specs.Below.{below_text}
use Rattle.ftd_replies.specs.Hints.{told_text}
use Rattle.ftd_replies.specs.Notes.{asked_after, note_text}
use Rattle.ftd_replies.specs.Putting.{IsPut}
use Rattle.ftd_replies.specs.Refusals.{refusal_status}
use Rattle.ftd_replies.specs.Replies.{reply_text}
use Rattle.ftd_answers.specs.Formats.{list_format}
use Rattle.ftd_answers.specs.declared.formats.ListFormat.{ListFormat}
use Rattle.ftd_answers.specs.declared.formats.ListFormat.TheVariants.{Text, Csv, Json}
use Rattle.ftd_replies.specs.declared.hints.HintFacts.{HintFacts}
use Rattle.ftd_replies.specs.declared.hints.HintFacts.TheVariants.{Nothing}
use Rattle.ftd_program.specs.AddedNotes.{added_notes}
use Rattle.ftd_program.specs.Mending.{KnowsAfter, KnowsOf, or_nothing}
use Rattle.ftd_program.specs.Numbering.{FindsNumber, next_of, number_text}
use Rattle.ftd_program.specs.RecordNotes.{PutsRefusals}
use Rattle.ftd_program.specs.Summaries.{stop_status, stop_text, summary_status, summary_text}
use Rattle.ftd_program.specs.declared.performing.JobEnd.{JobEnd}
use Rattle.ftd_program.specs.declared.performing.TheConstants.{MOST_HINTS}

-- a list is told as text in this format
abbrev pub is_list_text : ListFormat → Bool
is_list_text Text = true
is_list_text Csv = false
is_list_text Json = false

abbrev pub is_text : AnswerFormat → Bool
is_text (Plain format) = is_list_text (list_format format)
is_text Page = false

-- what is told where there is no memory for the other hints
abbrev pub no_hints : List ℕ
no_hints = codes "hint: there is no memory for the other hints\n"

-- the hints were written whole, or their target failed after a prefix of them; or, where there was
-- no memory for all of them, a line below a prefix of them says so
pub data PutsHints (before after : Option (List ℕ)) (failed : Bool) (hints : List ℕ) : Type 0 where
  whole : IsPut before after failed hints → PutsHints before after failed hints
  part : (between : Option (List ℕ)) → WritesPrefix before between hints
      → IsPut between after failed no_hints → PutsHints before after failed hints

-- how many more records are malformed than have a hint each
abbrev pub more_hint : ℕ → List ℕ
more_hint count =
    concat (codes "hint: and " ∷ decimal count ∷ codes " more records are malformed\n" ∷ [])

-- the hints of the malformed records of a text were put, of the first 1,000 of them, and how many
-- more there are; nothing where none is malformed
pub record PutsMalformed {E : Type 0} (e_taken : E → Option (List ℕ)) (e_failed : E → Bool)
    (err after : E) (kind : Sheet) (input : List ℕ) (malformed : ℕ) : Type 0 where
  pub hinted : E
  pub no_hint : malformed ≡ 0 → hinted ≡ err
  pub hints : malformed ≢ 0 → PutsHints (e_taken err) (e_taken hinted) (e_failed hinted)
      (record_hints kind (min malformed MOST_HINTS) input)
  pub no_more : malformed ≤ MOST_HINTS → after ≡ hinted
  pub more : MOST_HINTS < malformed → IsPut (e_taken hinted) (e_taken after) (e_failed after)
      (more_hint (malformed - MOST_HINTS))

module _ {O E : Type 0} (o_taken : O → Option (List ℕ)) (o_failed : O → Bool)
    (e_taken : E → Option (List ℕ)) (e_failed : E → Bool)
    (out : O) (err : E) (p : JobEnd O E) where
  -- the line of a refusal on standard error, and its hints below it, with what is known for them
  pub record PrintsRefusal (db : List ℕ) (request : Request) (known : HintFacts) (refusal : Refusal)
      : Type 0 where
    pub status_is : p.status ≡ refusal_status refusal
    pub out_is : p.out ≡ out
    pub line : IsPut (e_taken err) (e_taken p.err) (e_failed p.err)
        (told_text db request refusal known)

  -- a text on standard output, with this status
  pub record PrintsText (status : ℕ) (text : List ℕ) : Type 0 where
    pub status_is : p.status ≡ status
    pub err_is : p.err ≡ err
    pub whole : Appends (o_taken out) (o_taken p.out) text

  -- standard output took no more than a prefix of it
  pub record FailsOutput (text : List ℕ) : Type 0 where
    pub status_is : p.status ≡ 3
    pub part : WritesPrefix (o_taken out) (o_taken p.out) text
    pub failed : o_failed p.out ≡ true
    pub line : IsPut (e_taken err) (e_taken p.err) (e_failed p.err) (codes "failed Output\n")

  abbrev pub PrintsOut : ℕ → List ℕ → Type 0
  PrintsOut status text = PrintsText status text ⊎ FailsOutput text

  -- the text of a reply on standard output, and what is said below it on standard error
  pub record PrintsReplied (text said : List ℕ) : Type 0 where
    pub status_is : p.status ≡ 0
    pub whole : Appends (o_taken out) (o_taken p.out) text
    pub said_is : IsPut (e_taken err) (e_taken p.err) (e_failed p.err) said

  abbrev pub PrintsReply : List ℕ → List ℕ → Type 0
  PrintsReply text said = PrintsReplied text said ⊎ FailsOutput text

  -- the summary of an import on standard output, and on standard error a note for each account to
  -- which it added obligations and notes of its refused records, as far as there is memory for
  -- them, and the hints of its malformed ones
  pub record PrintsCounts (old new : Held) (kind : Sheet) (input : List ℕ) (summary : Summary)
      : Type 0 where
    pub status_is : p.status ≡ summary_status summary
    pub whole : Appends (o_taken out) (o_taken p.out) (summary_text summary)
    pub noted : E
    pub notes : WritesPrefix (e_taken err) (e_taken noted)
        (added_notes (added_by summary.changes.entries.items))
    pub no_note : summary.changes.entries.items ≡ [] → noted ≡ err
    pub told : E
    pub refusals : PutsRefusals e_taken noted told old new summary.refusals.entries.items
    pub hints : PutsMalformed e_taken e_failed told p.err kind input summary.malformed

  abbrev pub PrintsSummary : Held → Held → Sheet → List ℕ → Summary → Type 0
  PrintsSummary old new kind input summary =
      PrintsCounts old new kind input summary
      ⊎ (StandsAsBefore old new × FailsOutput (summary_text summary))

  -- the summary of an import that stopped on standard output, and why it stopped on standard error,
  -- with its hint
  pub record PrintsBoth (kind : Sheet) (input : List ℕ) (why : StopCause) (text : List ℕ)
      : Type 0 where
    pub status_is : p.status ≡ stop_status why
    pub whole : Appends (o_taken out) (o_taken p.out) text
    pub line : IsPut (e_taken err) (e_taken p.err) (e_failed p.err) (stop_text kind input why)

  abbrev pub PrintsStop : Sheet → List ℕ → ImportStop → Type 0
  PrintsStop kind input stopped =
      PrintsBoth kind input stopped.cause (summary_text stopped.done)
      ⊎ FailsOutput (summary_text stopped.done)

  -- the text of the reply in a format, and what is said below it, or the lines of the refusal
  abbrev pub Prints : List ℕ → AnswerFormat → Request → HintFacts → Answer → Type 0
  Prints db format request known (Ok reply) =
      PrintsReply (reply_text format reply) (below_text db request reply)
  Prints db format request known (Err refusal) = PrintsRefusal db request known refusal

  -- the request was asked of the desk, which answered this, and its answer printed
  pub record PerformsBy (old new : Held) (db : List ℕ) (format : AnswerFormat) (request : Request)
      (answer : Answer) : Type 0 where
    pub handles : Handles old new request answer
    pub known : Result HintFacts Refusal
    pub knows : KnowsAfter old new request answer known
    pub prints : Prints db format request (or_nothing known) answer

  abbrev pub Performs : Held → Held → List ℕ → AnswerFormat → Request → Type 0
  Performs old new db format request =
      (answer : Answer) × PerformsBy old new db format request answer

  -- a prefix of the due list was printed: there was no memory, or the store failed, in the middle
  -- of it
  pub record BreaksDue (refusal : Refusal) (rows : List DueRow) (db account : List ℕ)
      (quarter as_of : ℕ) : Type 0 where
    pub status_is : p.status ≡ 3
    pub part : WritesPrefix (o_taken out) (o_taken p.out) (due_text account quarter as_of rows)
    pub line : IsPut (e_taken err) (e_taken p.err) (e_failed p.err)
        (told_text db (Question (DueList account quarter as_of)) refusal Nothing)

  -- a prefix of it was printed: standard output failed
  pub record FailsDue (rows : List DueRow) (account : List ℕ) (quarter as_of : ℕ) : Type 0 where
    pub status_is : p.status ≡ 3
    pub part : WritesPrefix (o_taken out) (o_taken p.out) (due_text account quarter as_of rows)
    pub reason : o_failed p.out ≡ true
    pub line : IsPut (e_taken err) (e_taken p.err) (e_failed p.err) (codes "failed Output\n")

  -- what was printed of a due list: all of it; why it was refused, with what is known for the
  -- hints; a prefix of it, or nothing, since there was no memory or the store failed; a prefix of
  -- it, since standard output failed
  pub data PrintsDue (s : State) (db account : List ℕ) (quarter as_of : ℕ) : Type 0 where
    whole : (rows : List DueRow) → Replies s account quarter as_of rows
        → PrintsText 0 (due_text account quarter as_of rows) → PrintsDue s db account quarter as_of
    refused : (refusal : Refusal) (known : Result HintFacts Refusal)
        → Refuses s account quarter as_of refusal
        → KnowsOf s (Question (DueList account quarter as_of)) (Err refusal) known
        → PrintsRefusal db (Question (DueList account quarter as_of)) (or_nothing known) refusal
        → PrintsDue s db account quarter as_of
    unbegun : (refusal : Refusal) → IsFault (Err refusal)
        → PrintsRefusal db (Question (DueList account quarter as_of)) Nothing refusal
        → PrintsDue s db account quarter as_of
    broken : (refusal : Refusal) (rows : List DueRow) → IsFault (Err refusal)
        → Replies s account quarter as_of rows → BreaksDue refusal rows db account quarter as_of
        → PrintsDue s db account quarter as_of
    failed : (rows : List DueRow) → Replies s account quarter as_of rows
        → FailsDue rows account quarter as_of → PrintsDue s db account quarter as_of

  -- a due list was printed of exactly the account's obligations in the tables that begin in the
  -- quarter, each once, by first day
  abbrev pub ShowsDue : List ℕ → ℕ → ℕ → Tables → Type 0
  ShowsDue account quarter as_of t =
      (rows : List DueRow) × ShowsRows account quarter rows t
      × PrintsText 0 (due_text account quarter as_of rows)

  -- the due list was asked of the desk, and printed from its rows as they came
  pub record PerformsDue (old new : Held) (db account : List ℕ) (quarter as_of : ℕ)
      : Type 0 where
    pub stands : StandsAsBefore old new
    pub prints : HasCleanDisk new.db → (s : State) → Keeps old s
        → PrintsDue s db account quarter as_of
    -- so of any tables, whether they stand for a state or not
    pub shows : HasCleanDisk new.db → p.status ≡ 0 → (t : Tables) → StandIfOpen old.db t
        → ShowsDue account quarter as_of t

-- what is asked of the desk after its answer to a request
abbrev pub asked_then : Request → Answer → Option Request
asked_then request (Ok reply) = asked_after request reply
asked_then request (Err refusal) = None

-- what is said of an answer to it is put on standard error; nothing goes there where there is none
abbrev pub PutsNote : {E : Type 0} → (E → Option (List ℕ)) → (E → Bool) → (err err' : E) → List ℕ
    → Answer → Type 0
PutsNote e_taken e_failed err err' db (Ok (reply.Told facts)) =
    IsPut (e_taken err) (e_taken err') (e_failed err') (note_text db facts)
PutsNote e_taken e_failed err err' db other = err' ≡ err

module _ {S O E : Type 0} (g : store.Ghosts S) (e_taken : E → Option (List ℕ)) (e_failed : E → Bool)
    (first p : JobEnd O E) where
  -- the question was asked of the desk, and what is said of its answer put below what was performed
  pub record Notes (old new : Desk S) (db : List ℕ) (question : Request) : Type 0 where
    pub answer : Answer
    pub handles : Handles (held g old) (held g new) question answer
    pub status_is : p.status ≡ first.status
    pub out_is : p.out ≡ first.out
    pub puts : PutsNote e_taken e_failed first.err p.err db answer

  -- where the text of a reply was printed, the desk was asked this; else nothing more was done
  abbrev pub NotesAfter : Desk S → Desk S → List ℕ → Option Request → Type 0
  NotesAfter old new db None = (new ≡ old) × (p ≡ first)
  NotesAfter old new db (Some question) =
      MatchBool (first.status == 0) (Notes old new db question) ((new ≡ old) × (p ≡ first))

module _ {S O E : Type 0} (g : store.Ghosts S) (o_taken : O → Option (List ℕ)) (o_failed : O → Bool)
    (e_taken : E → Option (List ℕ)) (e_failed : E → Bool)
    (out : O) (err : E) (p : JobEnd O E) where
  -- the request was asked of the desk, and its answer printed; then the desk was asked what is said
  -- below it
  pub record AnswersThenNotes (old new : Desk S) (db : List ℕ) (format : AnswerFormat)
      (request : Request) : Type 0 where
    pub answer : Answer
    pub between : Desk S
    pub first : JobEnd O E
    pub performs : PerformsBy o_taken o_failed e_taken e_failed out err first (held g old)
        (held g between) db format request answer
    pub notes : NotesAfter g e_taken e_failed first p between new db (asked_then request answer)

  -- a due list is printed row by row as text, and in the other formats when it is there
  abbrev pub AsksDue : Desk S → Desk S → List ℕ → Bool → AnswerFormat → Request → List ℕ → ℕ → ℕ
      → Type 0
  AsksDue old new db true format request account quarter as_of =
      PerformsDue o_taken o_failed e_taken e_failed out err p (held g old) (held g new) db account
      quarter as_of
  AsksDue old new db false format request account quarter as_of =
      Performs o_taken o_failed e_taken e_failed out err p (held g old) (held g new) db format
      request

  -- every other reply is printed when it is there
  abbrev pub AsksBy : Desk S → Desk S → List ℕ → AnswerFormat → Request → Option Questions → Type 0
  AsksBy old new db format request (Some (DueList account quarter as_of)) =
      AsksDue old new db (is_text format) format request account quarter as_of
  AsksBy old new db format request other = AnswersThenNotes old new db format request

  abbrev pub Asks : Desk S → Desk S → List ℕ → AnswerFormat → Request → Type 0
  Asks old new db format request = AsksBy old new db format request (question_of request)

module _ {S O E : Type 0} (g : store.Ghosts S) (o_taken : O → Option (List ℕ)) (o_failed : O → Bool)
    (e_taken : E → Option (List ℕ)) (e_failed : E → Bool)
    (out : O) (err : E) (p : JobEnd O E) where
  -- where the desk answered the request so, this was performed
  abbrev pub PrintsAnswer : Desk S → Desk S → List ℕ → AnswerFormat → Request → Answer → Type 0
  PrintsAnswer old new db format request answer =
      (before : Desk S) → Handles (held g before) (held g old) request answer
      → PerformsBy o_taken o_failed e_taken e_failed out err p (held g before) (held g new) db
      format request answer

  -- the text was printed, and then the request asked, and its answer printed with what is said below
  -- it; or standard output took no more than a prefix of the text, and the request was not asked
  pub data AsksAfter (old new : Desk S) (db : List ℕ) (request : Request) (text : List ℕ) : Type 0
    where
      asked : (told : O) → Appends (o_taken out) (o_taken told) text
          → AnswersThenNotes g o_taken o_failed e_taken e_failed told err p old new db as_text
          request → AsksAfter old new db request text
      unasked : new ≡ old → FailsOutput o_taken o_failed e_taken e_failed out err p text
          → AsksAfter old new db request text

  -- the number was printed first
  abbrev pub AsksUnder : Desk S → Desk S → List ℕ → Request → ℕ → Type 0
  AsksUnder old new db request number = AsksAfter old new db request (number_text number)

  -- the correction was asked under the greatest number: it was answered how many there are, and
  -- the correction asked under the next number; or its answer was printed
  pub data AsksCounted (old new : Desk S) (db : List ℕ) (request : Request) : Type 0 where
    counted : (answer : Answer) (between : Desk S) (number : ℕ)
        → Handles (held g old) (held g between) (with_number request greatest_number) answer
        → next_of answer ≡ Some number
        → AsksUnder between new db (with_number request number) number
        → AsksCounted old new db request
    answered : (answer : Answer) → next_of answer ≡ None
        → PerformsBy o_taken o_failed e_taken e_failed out err p (held g old) (held g new) db
        as_text (with_number request greatest_number) answer → AsksCounted old new db request

  -- the pay run or payment was asked under the least number above all that its account has used; or
  -- a fault came in place of the number, and it was not asked
  pub data AsksUnused (old new : Desk S) (db : List ℕ) (request : Request) : Type 0 where
    numbered : (between : Desk S) (number : ℕ)
        → FindsNumber (held g old) (held g between) request number
        → AsksUnder between new db (with_number request number) number
        → AsksUnused old new db request
    unnumbered : (refusal : Refusal) → IsFault (Err refusal)
        → StandsAsBefore (held g old) (held g new)
        → PrintsRefusal o_taken o_failed e_taken e_failed out err p db request Nothing refusal
        → AsksUnused old new db request

  -- the request was asked under the next number
  abbrev pub AsksNext : Desk S → Desk S → List ℕ → Request → Type 0
  AsksNext old new db (Post account known run) = AsksUnused old new db (Post account known run)
  AsksNext old new db (Pay account known payment) =
      AsksUnused old new db (Pay account known payment)
  AsksNext old new db other = AsksCounted old new db other

  -- the summary of an import, or why it stopped, was printed; of a summary the desk was asked what
  -- is known of its refused records
  abbrev pub PrintsImport : Desk S → Desk S → Sheet → List ℕ → Result Summary ImportStop → Type 0
  PrintsImport old new kind text (Ok summary) =
      PrintsSummary o_taken o_failed e_taken e_failed out err p (held g old) (held g new) kind text
      summary
  PrintsImport old new kind text (Err stopped) =
      (new ≡ old) × PrintsStop o_taken o_failed e_taken e_failed out err p kind text stopped

  -- the entries of the text were imported, and what became of them printed; only where the desk is
  -- stopped may a commit have failed
  pub record PerformsImport (old new : Desk S) (kind : Sheet) (text : List ℕ) : Type 0 where
    pub import : Result Summary ImportStop
    pub between : Desk S
    pub imports : MatchResult import
        (λ summary. Imports (held g old) (held g between) kind text summary)
        (λ end. Stops (IsStopped between) (held g old) (held g between) kind text end)
    pub prints : PrintsImport between new kind text import

  -- what an import of the text would say was printed, as the import prints it; the desk stands for
  -- the state as it was
  pub record PerformsTrial (old new : Desk S) (kind : Sheet) (text : List ℕ) : Type 0 where
    pub trial : Result Summary ImportStop
    pub between : Desk S
    pub tells : MatchResult trial
        (λ summary. WouldImport (held g old) (held g between) kind text summary)
        (λ end. FailsTrial kind text end)
    pub stands : StandsAsBefore (held g old) (held g between)
    pub prints : PrintsImport between new kind text trial

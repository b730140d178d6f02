-- A year is opened of each account that has the year before open.
use Rattle.std.specs.Prelude.{◌≡◌, ◌==◌, ◌+◌, ◌-◌, ◌++◌, ℕ, Bool, true, false, List, [], ◌∷◌}
use Rattle.std.specs.Prelude.{Option, None, Some, Ok, Err, Result, codes, filter}
use Rattle.std.specs.Prelude.{if◌then◌else◌, length, map}
use Rattle.std.specs.Fmt.{decimal}
use Rattle.std.specs.Io.KnownBytes.{Appends}
use Rattle.std.specs.List.{concat, flat_map, list_any}
use Rattle.sqlite.specs.State.{HasCleanDisk}
use Rattle.sqlite.specs.Store as store
use Rattle.ftd_machine.specs.Checks.{Answer}
use Rattle.ftd_machine.specs.Kept.{AreAccounts}
use Rattle.ftd_machine.specs.Limits.{can_be_opened}
use Rattle.ftd_machine.specs.Refusals.{is_failure}
use Rattle.ftd_machine.specs.Runs.{IsFault}
use Rattle.ftd_machine.specs.State.{State, entries_of, is_open}
use Rattle.ftd_machine.specs.Told.{kept_answer}
use Rattle.ftd_machine.specs.declared.kept.KeptAccount.{KeptAccount}
use Rattle.ftd_machine.specs.declared.kept.KeptRows.TheVariants as rows
use Rattle.ftd_machine.specs.declared.replies.Refusal.{Refusal}
use Rattle.ftd_machine.specs.declared.replies.Refusal.TheVariants.{BadYear}
use Rattle.ftd_machine.specs.declared.requests.Entry.TheVariants as entry
use Rattle.ftd_machine.specs.declared.requests.Request.{Request}
use Rattle.ftd_machine.specs.declared.requests.Request.TheVariants as request
use Rattle.ftd_desk.specs.Desks.{Held, Keeps, held}
use Rattle.ftd_desk.specs.Telling.{StandsAsBefore}
use Rattle.ftd_desk.specs.Words.{Handles, is_fault}
use Rattle.ftd_desk.specs.declared.desk.Desk.{Desk}
use Rattle.ftd_ports.specs.Writing.{WritesPrefix}
use Rattle.ftd_ports.specs.declared.writing.WriteFault.{WriteFault}
use Rattle.ftd_replies.specs.Hints.{account_in, hints_text}
use Rattle.ftd_replies.specs.Putting.{IsPut}
use Rattle.ftd_replies.specs.Refusals.{refusal_text}
use Rattle.ftd_replies.specs.Replies.{reply_text}
use Rattle.ftd_replies.specs.declared.hints.HintFacts.{HintFacts}
use Rattle.ftd_replies.specs.declared.hints.HintFacts.TheVariants.{Nothing}
use Rattle.ftd_program.specs.Mending.{KnowsAfter, or_nothing}
use Rattle.ftd_imports.specs.Outcomes.{is_already, is_posted, is_refused}
use Rattle.ftd_verbs.specs.Formats.{as_text}
use Rattle.ftd_program.specs.Performing.{FailsOutput, PrintsOut, PrintsRefusal}
use Rattle.ftd_program.specs.declared.open_years.OpenCounts.{OpenCounts}
use Rattle.ftd_program.specs.declared.performing.JobEnd.{JobEnd}

-- ---- which accounts

-- the request that opens the year of an account
abbrev pub year_request : ℕ → List ℕ → Request
year_request year name = request.Enter (entry.Year name year)

abbrev pub year_request_of : ℕ → KeptAccount → Request
year_request_of year account = year_request year account.name

-- the account has the year open
abbrev pub has_open : State → ℕ → KeptAccount → Bool
has_open s year account = is_open (entries_of s account.name) year

-- the requests that open the year of those of these accounts that have the year before open
abbrev pub year_requests : State → ℕ → List KeptAccount → List Request
year_requests s year accounts = map (year_request_of year) (filter (has_open s (year - 1)) accounts)

-- that of one account, where it has the year before open
abbrev pub year_request_if : State → ℕ → List ℕ → List Request
year_request_if s year name =
    if is_open (entries_of s name) (year - 1) then year_request year name ∷ [] else []

-- these are they for all accounts, by name
pub record AreYearRequests (s : State) (year : ℕ) (requests : List Request) : Type 0 where
  pub accounts : List KeptAccount
  pub are_all : AreAccounts s (kept_answer (rows.Accounts accounts))
  pub requests_are : requests ≡ year_requests s year accounts

-- so in each state that the desk stood for; it stands for it still
pub record AreToOpen (old new : Held) (year : ℕ) (requests : List Request) : Type 0 where
  pub are : HasCleanDisk new.db → (s : State) → Keeps old s → AreYearRequests s year requests
  pub stands : StandsAsBefore old new

-- ---- the texts

-- a request that opens a year of an account, and what the desk answered
abbrev pub YearAnswer : Type 0
YearAnswer = Request × Answer

-- an answer, as the line that the request prints as a command of its own
abbrev pub answer_text : Answer → List ℕ
answer_text (Ok reply) = reply_text as_text reply
answer_text (Err refusal) = refusal_text refusal

-- the account and its answer: `ash done`, `elm refused 17 QuarterMissing 2023Q3`
unfoldable pub line_text : Request → Answer → List ℕ
line_text asked answer = account_in asked ++ (codes " " ++ answer_text answer)

abbrev pub answer_line : YearAnswer → List ℕ
answer_line it = line_text it.0 it.1

-- how many were answered so
abbrev pub count_of : (Answer → Bool) → List YearAnswer → ℕ
count_of test asked = length (filter (λ it. test it.1) asked)

-- one more, or none
abbrev pub one_if : Bool → ℕ
one_if true = 1
one_if false = 0

-- how many are counted
abbrev pub tally : OpenCounts → ℕ
tally counts = counts.opened + counts.already + counts.refused

-- `opened 12 already 1 refused 2`
unfoldable pub counts_text : ℕ → ℕ → ℕ → List ℕ
counts_text opened already refused =
    concat (codes "opened " ∷ decimal opened ∷ codes " already " ∷ decimal already
    ∷ codes " refused " ∷ decimal refused ∷ (10 ∷ []) ∷ [])

abbrev pub totals_text : List YearAnswer → List ℕ
totals_text asked =
    counts_text (count_of is_posted asked) (count_of is_already asked) (count_of is_refused asked)

-- 1 where one was refused
abbrev pub status_for : ℕ → ℕ
status_for refused = if refused == 0 then 0 else 1

-- `no account has 2024 open`
unfoldable pub none_text : ℕ → List ℕ
none_text year = concat (codes "no account has " ∷ decimal year ∷ codes " open\n" ∷ [])

-- ---- what is done

-- the refusal of an answer where there was no memory, or the store failed
abbrev pub failure_in : Answer → Option Refusal
failure_in (Ok reply) = None
failure_in (Err refusal) = if is_failure refusal then Some refusal else None

-- the hints of a refusal are put on standard error, with what is known for them
abbrev pub PutsHints : {E : Type 0} → (E → Option (List ℕ)) → (E → Bool) → (err told : E) → List ℕ
    → Request → HintFacts → Answer → Type 0
PutsHints e_taken e_failed err told db asked known (Ok reply) = told ≡ err
PutsHints e_taken e_failed err told db asked known (Err refusal) =
    IsPut (e_taken err) (e_taken told) (e_failed told) (hints_text db asked refusal known)

module _ {S E : Type 0} (g : store.Ghosts S) (e_taken : E → Option (List ℕ)) (e_failed : E → Bool)
  where
    -- the request was asked of the desk, which answered this, and hints of a refusal were put
    pub record AsksOne (err told : E) (old new : Desk S) (db : List ℕ) (asked : Request)
        (answer : Answer) : Type 0 where
      pub handles : Handles (held g old) (held g new) asked answer
      pub known : Result HintFacts Refusal
      pub knows : KnowsAfter (held g old) (held g new) asked answer known
      pub puts : PutsHints e_taken e_failed err told db asked (or_nothing known) answer

    -- where the desk answered the request so, its hints were put
    abbrev pub PutsAfter : (err told : E) → (old new : Desk S) → List ℕ → Request → Answer → Type 0
    PutsAfter err told old new db asked answer =
        (before : Desk S) → Handles (held g before) (held g old) asked answer
        → AsksOne err told before new db asked answer

    -- so of each of these, one after the other
    abbrev pub AsksEach : (err told : E) → (old new : Desk S) → List ℕ → List YearAnswer → Type 0
    AsksEach err told old new db [] = (new ≡ old) × (told ≡ err)
    AsksEach err told old new db (it ∷ later) =
        (between : Desk S) × (said : E) × AsksOne err said old between db it.0 it.1
        × AsksEach said told between new db later

module _ {S O E : Type 0} (g : store.Ghosts S) (o_taken : O → Option (List ℕ)) (o_failed : O → Bool)
    (e_taken : E → Option (List ℕ)) (e_failed : E → Bool) where
  -- the request was asked of the desk, and its line printed; or standard output took no more than a
  -- prefix of it
  abbrev pub PrintsLine : (out shown : O) → (err told : E) → (old new : Desk S) → List ℕ → Request
      → Result Answer WriteFault → Type 0
  PrintsLine out shown err told old new db asked (Ok answer) =
      AsksOne g e_taken e_failed err told old new db asked answer
      × Appends (o_taken out) (o_taken shown) (line_text asked answer)
  PrintsLine out shown err told old new db asked (Err fault) =
      (answer : Answer) × Handles (held g old) (held g new) asked answer
      × WritesPrefix (o_taken out) (o_taken shown) (line_text asked answer)
      × (o_failed shown ≡ true) × (told ≡ err)

  -- these were asked and answered so, none by a fault, and each has its line on standard output
  pub record AnswersEach (out shown : O) (err told : E) (old new : Desk S) (db : List ℕ)
      (asked : List YearAnswer) : Type 0 where
    pub asks : AsksEach g e_taken e_failed err told old new db asked
    pub lines : Appends (o_taken out) (o_taken shown) (flat_map answer_line asked)
    pub no_fault : list_any (λ it. is_fault it.1) asked ≡ false

  module _ (out : O) (err : E) (p : JobEnd O E) where
    -- the requests were asked one after the other. All were answered, and how many so is the last
    -- line; or one met a fault, which has its line, and is told on standard error; or standard
    -- output took no more than a prefix of the line of one. None was asked after it.
    pub data OpensEach (old new : Desk S) (db : List ℕ) (requests : List Request) : Type 0 where
      whole : (asked : List YearAnswer) (shown : O) (told : E) → map (λ it. it.0) asked ≡ requests
          → AnswersEach out shown err told old new db asked
          → PrintsOut o_taken o_failed e_taken e_failed shown told p
          (status_for (count_of is_refused asked)) (totals_text asked)
          → OpensEach old new db requests
      failed : (asked : List YearAnswer) (last : Request) (later : List Request) (refusal : Refusal)
          (between : Desk S) (shown above : O) (told said : E)
          → requests ≡ map (λ it. it.0) asked ++ last ∷ later
          → AnswersEach out above err told old between db asked
          → AsksOne g e_taken e_failed told said between new db last (Err refusal)
          → is_failure refusal ≡ true
          → Appends (o_taken above) (o_taken shown) (line_text last (Err refusal))
          → PrintsRefusal o_taken o_failed e_taken e_failed shown said p db last Nothing refusal
          → OpensEach old new db requests
      unprinted : (asked : List YearAnswer) (last : Request) (later : List Request)
          (answer : Answer) (between : Desk S) (above : O) (told : E)
          → requests ≡ map (λ it. it.0) asked ++ last ∷ later
          → AnswersEach out above err told old between db asked
          → Handles (held g between) (held g new) last answer
          → FailsOutput o_taken o_failed e_taken e_failed above told p (line_text last answer)
          → OpensEach old new db requests

    -- the year of each account that has the year before open was opened, by name. A year that can
    -- be opened of no account is refused as of one; a fault may come in place of the accounts, and
    -- nothing was opened then.
    pub data OpensYears (old new : Desk S) (db : List ℕ) (year : ℕ) : Type 0 where
      refused : can_be_opened year ≡ false → new ≡ old
          → PrintsRefusal o_taken o_failed e_taken e_failed out err p db (year_request year [])
          Nothing BadYear → OpensYears old new db year
      unread : (refusal : Refusal) → IsFault (Err refusal)
          → StandsAsBefore (held g old) (held g new)
          → PrintsRefusal o_taken o_failed e_taken e_failed out err p db (year_request year [])
          Nothing refusal → OpensYears old new db year
      none : can_be_opened year ≡ true → AreToOpen (held g old) (held g new) year []
          → PrintsOut o_taken o_failed e_taken e_failed out err p 0 (none_text (year - 1))
          → OpensYears old new db year
      opened : (first : Request) (later : List Request) (between : Desk S)
          → can_be_opened year ≡ true
          → AreToOpen (held g old) (held g between) year (first ∷ later)
          → OpensEach between new db (first ∷ later) → OpensYears old new db year

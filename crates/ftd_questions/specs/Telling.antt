-- A due list that is told row by row, to a sink.
use Rattle.std.specs.Prelude.{◌≡◌, ◌⊎◌, ◌+◌, ℕ, List, [], ◌∷◌, ◌++◌, None, Result, Ok, Err}
use Rattle.ftd_days.specs.Calendar.{quarter_year}
use Rattle.ftd_days.specs.Holidays.{holidays_of}
use Rattle.ftd_rules.specs.declared.verdict.DueRow.{DueRow}
use Rattle.ftd_sql.specs.Standing.{Tables}
use Rattle.ftd_store.specs.Lists.{Pairs}
use Rattle.ftd_store.specs.Holidays.{HasYears}
use Rattle.ftd_machine.specs.State.{State, entries_of, is_open}
use Rattle.ftd_machine.specs.History.{form_of}
use Rattle.ftd_machine.specs.Sound.{IsSound}
use Rattle.ftd_machine.specs.Checks.{first_of}
use Rattle.ftd_machine.specs.Requests.{due_list_checks}
use Rattle.ftd_machine.specs.Runs.{IsFault}
use Rattle.ftd_machine.specs.Step.{Step}
use Rattle.ftd_machine.specs.declared.replies.Refusal.{Refusal}
use Rattle.ftd_machine.specs.Told.{due_answer}
use Rattle.ftd_machine.specs.declared.requests.Question.TheVariants.{DueList}
use Rattle.ftd_machine.specs.declared.requests.Request.TheVariants.{Question}
use Rattle.ftd_entries.specs.Standing.{StandsFor}
use Rattle.ftd_questions.specs.DueRows.{IsRowBy}
use Rattle.ftd_entries.specs.Returns.{KnowsPeriod}
use Rattle.ftd_questions.specs.Shown.{ShowsRows}
use Rattle.ftd_questions.specs.Walks.{begun}
use Rattle.ftd_questions.specs.declared.asking.KnownReturn.{KnownReturn}
use Rattle.ftd_questions.specs.declared.due_rows.QuarterReturn.{QuarterReturn}
use Rattle.ftd_questions.specs.declared.faults.DueFault.{DueFault}
use Rattle.ftd_questions.specs.declared.faults.DueFault.TheVariants.{Refused, Sink}

-- the sink took these rows, one after the other
abbrev pub HasTaken : {K : Type 0} → (K → DueRow → K → Type 0) → K → List DueRow → K → Type 0
HasTaken took old [] new = new ≡ old
HasTaken {K = K} took old (row ∷ rows) new =
    (next : K) × took old row next × HasTaken took next rows new

-- it took exactly the account's obligations in the tables that begin in the quarter, each once, by
-- first day, whatever else these hold
abbrev pub TakesShown : {K : Type 0} → (K → DueRow → K → Type 0) → List ℕ → ℕ → K → K → Tables
    → Type 0
TakesShown took name quarter old new t =
    (rows : List DueRow) × HasTaken took old rows new × ShowsRows name quarter rows t

-- the machine's reply to the question is the due list of these rows, or it refuses the question
module _ (s : State) (name : List ℕ) (quarter as_of : ℕ) where
  abbrev pub Replies : List DueRow → Type 0
  Replies rows =
      Step s (Question (DueList name quarter as_of)) (due_answer name quarter as_of rows) s

  abbrev pub Refuses : Refusal → Type 0
  Refuses refusal = Step s (Question (DueList name quarter as_of)) (Err refusal) s

  -- all of its checks pass
  abbrev pub Passes : Type 0
  Passes =
      let own = entries_of s name in
      let there = is_open own (quarter_year quarter) in
      first_of (due_list_checks name quarter as_of own.account there) ≡ None

-- what is done to the sink, from its value before to the one after
module _ {K : Type 0} (took broke : K → DueRow → K → Type 0)
    (s : State) (name : List ℕ) (quarter as_of : ℕ) (old new : K) where
  -- it took exactly the rows of the reply
  abbrev pub TakesAll : Type 0
  TakesAll = (rows : List DueRow) × Replies s name quarter as_of rows × HasTaken took old rows new

  -- it took the first rows of the reply, perhaps none
  abbrev pub TakesFirst : Type 0
  TakesFirst =
      (first : List DueRow) × (rest : List DueRow) × Replies s name quarter as_of (first ++ rest)
      × HasTaken took old first new

  -- it took the first rows of the reply, and failed at the next
  abbrev pub BreaksOff : Type 0
  BreaksOff =
      (first : List DueRow) × (row : DueRow) × (rest : List DueRow)
      × Replies s name quarter as_of (first ++ row ∷ rest)
      × (mid : K) × HasTaken took old first mid × broke mid row new

  -- by what comes of it. A refusal is the machine's, and no row was told; or there was no memory,
  -- or the store failed, and no row or the first rows were told.
  abbrev pub Tells : Result (Unit {0}) DueFault → Type 0
  Tells (Ok done) = TakesAll
  Tells (Err (Refused refusal)) =
      (Refuses s name quarter as_of refusal × (new ≡ old))
      ⊎ (IsFault (Err refusal) × ((new ≡ old) ⊎ TakesFirst))
  Tells (Err Sink) = BreaksOff

-- rows that go with the account's obligations which begin in the quarter, by what is known of its
-- return, are the due list
abbrev pub KnowsRows : List ℕ → ℕ → ℕ → QuarterReturn → Tables → Type 0
KnowsRows name quarter as_of of_return t =
    (s : State) (stands : StandsFor t s) → IsSound s → (rows : List DueRow)
    → Pairs (IsRowBy of_return as_of) (begun stands name quarter) rows
    → Replies s name quarter as_of rows

-- the holidays and the return period of the quarter
pub record KnowsReturn (name : List ℕ) (quarter : ℕ) (known : KnownReturn) (t : Tables)
    : Type 0 where
  pub holidays : HasYears (quarter_year quarter) (quarter_year quarter + 1)
      (holidays_of known.holidays) t
  pub period : KnowsPeriod name known.form quarter known.period t

-- what the question rests on, where all of its checks pass; or the refusal
abbrev pub KnowsAsked : List ℕ → ℕ → ℕ → Result KnownReturn Refusal → Tables → Type 0
KnowsAsked name quarter as_of (Ok known) t =
    KnowsReturn name quarter known t
    × ((s : State) → StandsFor t s
    → Passes s name quarter as_of × (form_of (entries_of s name).account ≡ known.form))
KnowsAsked name quarter as_of (Err refusal) t =
    (s : State) → StandsFor t s → Refuses s name quarter as_of refusal

-- What an import does to the desk.
use Rattle.std.specs.Prelude.{◌≡◌, ◌⊎◌, ◌<◌, ◌≤◌, ◌+◌, ◌++◌, ◌∷◌, [], ℕ, Bool, true, false}
use Rattle.std.specs.Prelude.{List, Some, Err, length, map}
use Rattle.std.specs.List.{filter_map}
use Rattle.sqlite.specs.Tree.{Trees}
use Rattle.ftd_csv.specs.declared.reading.TheConstants.{MOST_BYTES}
use Rattle.ftd_imports.specs.declared.lists.TheConstants.{TOGETHER}
use Rattle.ftd_csv.specs.Records.{HasHeader, numbered_from, records_of}
use Rattle.ftd_csv.specs.declared.entries.Content.{Content}
use Rattle.ftd_csv.specs.declared.sheets.Sheet.{Sheet}
use Rattle.ftd_machine.specs.State.{State}
use Rattle.ftd_machine.specs.Checks.{Answer}
use Rattle.ftd_machine.specs.declared.replies.Refusal.{Refusal}
use Rattle.ftd_machine.specs.declared.replies.Refusal.TheVariants as refusal
use Rattle.ftd_machine.specs.declared.requests.Request.{Request}
use Rattle.ftd_desk.specs.Desks.{Held}
use Rattle.ftd_desk.specs.Words.{HandlesAll, HandlesLeaving, HandlesTogether, MayLeaveAll}
use Rattle.ftd_desk.specs.Words.{MayLeaveRun}
use Rattle.ftd_imports.specs.Outcomes.{Counts, IsNothing, IsSummary, Outcome, answer_in, fault_in}
use Rattle.ftd_imports.specs.Outcomes.{record_in, request_in}
use Rattle.ftd_csv.specs.Lists.{posts_of}
use Rattle.ftd_imports.specs.declared.summary.StopCause.{StopCause}
use Rattle.ftd_imports.specs.declared.summary.StopCause.TheVariants as cause
use Rattle.ftd_imports.specs.declared.summary.ImportStop.{ImportStop}
use Rattle.ftd_imports.specs.declared.summary.Summary.{Summary}

-- the desk was asked for the posts of these records, one after the other, and answered so; only
-- where the first premise holds may a crash find what a commit that failed was to keep
abbrev pub Asks : Type 0 → Held → Held → List Outcome → Type 0
Asks failed old new outcomes =
    HandlesAll failed old new (filter_map request_in outcomes) (filter_map answer_in outcomes)

-- these are outcomes of the records, none of which is a fault
pub record AreOutcomes (records : List (ℕ × Content)) (outcomes : List Outcome) : Type 0 where
  pub all : map record_in outcomes ≡ records
  pub no_fault : filter_map fault_in outcomes ≡ []

-- the records were posted, each in its place, and counted; no commit failed
pub record Posts (old new : Held) (records : List (ℕ × Content))
    (before after : Summary) : Type 0 where
  pub outcomes : List Outcome
  pub are : AreOutcomes records outcomes
  pub counts : Counts before outcomes after
  pub asks : Asks ⊥ old new outcomes

-- this became of a record at which an import stopped: there was no memory to post it or to note it,
-- or its post was answered by a fault
abbrev pub IsStop : ℕ × Content → StopCause → List Outcome → Type 0
IsStop at why last =
    ((why ≡ cause.Memory) × (last ≡ []))
    ⊎ ((outcome : Outcome) × (last ≡ outcome ∷ []) × (record_in outcome ≡ at)
    × (fault_in outcome ≡ Some why))

-- an import stopped at this record
pub record StopsAt (failed : Type 0) (old new : Held) (at : ℕ × Content) (why : StopCause)
    : Type 0 where
  pub last : List Outcome
  pub stop : IsStop at why last
  pub asks : Asks failed old new last

-- an import stopped at one of the records: those before it were posted and counted
pub record StopsIn (failed : Type 0) (old new : Held) (records : List (ℕ × Content))
    (before after : Summary) (why : StopCause) : Type 0 where
  pub passed : List (ℕ × Content)
  pub at : ℕ × Content
  pub others : List (ℕ × Content)
  pub split : records ≡ passed ++ at ∷ others
  pub outcomes : List Outcome
  pub are : AreOutcomes passed outcomes
  pub counts : Counts before outcomes after
  pub last : List Outcome
  pub stop : IsStop at why last
  pub asks : Asks failed old new (outcomes ++ last)

-- so many records at most go to the desk together
abbrev pub most_together : ℕ
most_together = TOGETHER

-- nothing of these posts was done; but where their commit failed, a crash may find what all of them
-- do
abbrev pub PostsNone : Type 0 → Held → Held → List Request → Type 0
PostsNone failed old new posts =
    Asks ⊥ old new [] ⊎ (failed × ((why : Refusal) × HandlesTogether old new posts (Err why)))

-- what a crash may leave of requests that were answered so, one after the other, or of a whole list
-- whose commit failed
abbrev pub MayLeaveEither : Type 0 → List Request → List Answer → List Request → State → Trees
    → Type 0
MayLeaveEither failed requests answers list s left =
    MayLeaveRun failed s requests answers left ⊎ MayLeaveAll s list (Err refusal.Store) left

-- the requests are answered one after the other, and the desk stands for the state at the end; a
-- crash finds what it would have found before, or a state of this run from the last change on, or
-- the state after all of a list
abbrev pub HandlesOrLeaves : Type 0 → Held → Held → List Request → List Answer → List Request
    → Type 0
HandlesOrLeaves failed old new requests answers list =
    HandlesLeaving (MayLeaveEither failed requests answers list) old new requests answers

-- The commit of a list of posts failed, and the list was asked for again, one post after the other,
-- up to some record of it. So the desk answered the posts up to there one after the other, and a
-- crash may also find the state after all of the list.
pub record AsksAgain (failed : Type 0) (old new : Held) (records passed : List (ℕ × Content))
    (outcomes : List Outcome) : Type 0 where
  pub before : List (ℕ × Content)
  pub list : List (ℕ × Content)
  pub others : List (ℕ × Content)
  pub split : records ≡ (before ++ list) ++ others
  pub short : length list ≤ most_together
  pub begins : length before ≤ length passed
  pub ends : length passed < length before + length list
  pub asks : HandlesOrLeaves failed old new (filter_map request_in outcomes)
      (filter_map answer_in outcomes) (posts_of (before ++ list))

-- an import stopped at one of the records: those before it were posted, each in its place, and told
-- so; the desk was asked for them one after the other, or, where a commit failed, in lists
pub record StopsWithin (failed : Type 0) (old new : Held) (records : List (ℕ × Content))
    (IsTold : List Outcome → Type 0) (why : StopCause) : Type 0 where
  pub passed : List (ℕ × Content)
  pub at : ℕ × Content
  pub others : List (ℕ × Content)
  pub split : records ≡ passed ++ at ∷ others
  pub outcomes : List Outcome
  pub are : AreOutcomes passed outcomes
  pub told : IsTold outcomes
  pub last : List Outcome
  pub stop : IsStop at why last
  pub asks : Asks failed old new (outcomes ++ last)
      ⊎ (failed × AsksAgain failed old new records passed (outcomes ++ last))

-- the records of the text, each with its number
abbrev pub numbered_in : Sheet → List ℕ → List (ℕ × Content)
numbered_in kind text = numbered_from 2 (records_of kind text)

-- the entries of the text were posted, each in its place, and this is the summary of its records
pub record Imports (old new : Held) (kind : Sheet) (text : List ℕ) (summary : Summary)
    : Type 0 where
  pub short : length text ≤ MOST_BYTES
  pub header : HasHeader kind text
  pub outcomes : List Outcome
  pub are : AreOutcomes (numbered_in kind text) outcomes
  pub summary_is : IsSummary outcomes summary
  pub asks : Asks ⊥ old new outcomes

-- the import stopped at one of the records: those before it were posted, each in its place, and
-- this is their summary
pub record StopsAmong (failed : Type 0) (old new : Held) (kind : Sheet) (text : List ℕ)
    (done : Summary) (why : StopCause) : Type 0 where
  pub short : length text ≤ MOST_BYTES
  pub header : HasHeader kind text
  pub stops : StopsWithin failed old new (numbered_in kind text)
      (λ outcomes. IsSummary outcomes done) why

-- nothing was posted
abbrev pub StopsFirst : Held → Held → Summary → Type 0
StopsFirst old new done = IsNothing done × Asks ⊥ old new []

-- where each cause stands; want of memory may come before there are records, or at one of them
abbrev pub StopsFor : Type 0 → Held → Held → Sheet → List ℕ → Summary → StopCause → Type 0
StopsFor failed old new kind text done cause.TooLong =
    (MOST_BYTES < length text) × StopsFirst old new done
StopsFor failed old new kind text done cause.BadHeader =
    (length text ≤ MOST_BYTES) × ¬ HasHeader kind text × StopsFirst old new done
StopsFor failed old new kind text done cause.Memory =
    StopsFirst old new done ⊎ StopsAmong failed old new kind text done cause.Memory
StopsFor failed old new kind text done cause.Store =
    StopsAmong failed old new kind text done cause.Store

-- the import stopped so: the posts went one after the other, or, only where the first premise
-- holds, in lists of which a commit failed
abbrev pub Stops : Type 0 → Held → Held → Sheet → List ℕ → ImportStop → Type 0
Stops failed old new kind text stopped =
    StopsFor failed old new kind text stopped.done stopped.cause

-- the text itself is at fault
abbrev pub is_of_text : StopCause → Bool
is_of_text cause.TooLong = true
is_of_text cause.BadHeader = true
is_of_text cause.Memory = false
is_of_text cause.Store = false

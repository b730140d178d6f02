-- What a request does to the database.
use Rattle.std.specs.Prelude.{◌≡◌, ◌⊎◌, Bool, true, false, IsTrue, List, [], ◌∷◌, ◌++◌, length}
use Rattle.std.specs.Prelude.{Result, Ok, Err, Vec, All, IfOk, MatchResult}
use Rattle.std.specs.List.{list_any}
use Rattle.sqlite.specs.Effect.{Database}
use Rattle.sqlite.specs.State as database
use Rattle.sqlite.specs.State.{HasCleanDisk, Survives}
use Rattle.sqlite.specs.Tree.{Trees}
use Rattle.ftd_machine.specs.State.{State}
use Rattle.ftd_machine.specs.Checks.{Answer}
use Rattle.ftd_machine.specs.Step.{Step}
use Rattle.ftd_machine.specs.Runs.{Goes, IsRun, IsFault}
use Rattle.ftd_machine.specs.Laws.{is_change}
use Rattle.ftd_machine.specs.Refusals.{is_failure}
use Rattle.ftd_machine.specs.declared.replies.Refusal.TheVariants.{Memory, Store}
use Rattle.ftd_machine.specs.declared.requests.Request.{Request}
use Rattle.ftd_sql.specs.States.{CrashKeeps}
use Rattle.ftd_store.specs.Ends.{CrashLeaves}
use Rattle.ftd_machine.specs.Sound.{IsSound}
use Rattle.ftd_sql.specs.Standing.{Tables, Stands}
use Rattle.ftd_machine.specs.declared.replies.Refusal.{Refusal}
use Rattle.ftd_entries.specs.Standing.{StandsFor}
use Rattle.ftd_entries.specs.Words.{IsKept}
use Rattle.ftd_posting.specs.Repaired.{Repairs}
use Rattle.ftd_desk.specs.Books.{IsKnown}
use Rattle.ftd_desk.specs.Desks.{Held, Keeps}
use Rattle.ftd_desk.specs.declared.known.Known.{Known}
use Rattle.ftd_desk.specs.declared.listed.ServedAll.{ServedAll}

-- what a crash may leave of a request beside the tables from before it: those of the machine's next
-- state
pub record MayLeave (s : State) (request : Request) (left : Trees) : Type 0 where
  pub answer : Answer
  pub next : State
  pub step : Step s request answer next
  pub db : Database
  pub trees : left ≡ db.trees
  pub kept : IsKept db next

-- the request is answered as the machine answers it, and the desk stands for its next state while
-- the connection is open; or there is a fault, and it stands for the state as it was
pub record Handles (old new : Held) (request : Request) (answer : Answer) : Type 0 where
  pub honest : HasCleanDisk new.db → HasCleanDisk old.db
  pub opens : HasCleanDisk new.db → IsTrue new.db.is_open → IsTrue old.db.is_open
  pub answered : HasCleanDisk new.db → (s : State) → Keeps old s
      → (next : State) × Goes s request answer next × (IsTrue new.db.is_open → Keeps new next)
  -- a connection that was not open answers a fault
  pub shut : HasCleanDisk new.db → (IsTrue old.db.is_open → ⊥) → IsFault answer
  -- a crash finds what it would have found before, or the machine's next state
  pub crash : Survives old.db new.db (λ left. IsTrue old.db.is_open
      × ((s : State) → Keeps old s → MayLeave s request left))
  -- once the request is done, or its run posted or voided, the connection is open, and a crash
  -- finds what is seen now
  pub lasts : HasCleanDisk new.db → is_change answer ≡ true
      → IsTrue new.db.is_open × CrashLeaves new.db new.db.now
  -- a refusal, and the answer to a question, leave what a crash finds
  pub keeps : is_change answer ≡ false → (answer ≡ Err Store → ⊥) → CrashKeeps old.db new.db

-- a run that is posted or voided changes the account's rows that its repair names, and no others:
-- so of any tables with the columns of the desk's, whether they stand for a state or not
abbrev pub RepairsRows : database.State → database.State → Request → Answer → Type 0
RepairsRows old new request answer =
    HasCleanDisk new → IsTrue new.is_open → is_change answer ≡ true
    → (t : Tables) → Stands old.now t → Repairs request answer old.now new.now t

-- the first of these requests was answered with Store, and its commit may have been kept all the
-- same: this is the machine's next state
pub record FailsFirst (s : State) (requests : List Request) (answers : List Answer) (next : State)
    : Type 0 where
  pub request : Request
  pub others : List Request
  pub first : requests ≡ request ∷ others
  pub later : List Answer
  pub told : answers ≡ Err Store ∷ later
  pub answer : Answer
  pub step : Step s request answer next

-- what a crash may leave of requests that were answered so, one after the other, beside the tables
-- from before them: those of the state after the first of them, behind which no answer tells of a
-- change; or, only where the first premise holds, those of the machine's next state, as a commit
-- failed there
pub record MayLeaveRun (failed : Type 0) (s : State) (requests : List Request)
    (answers : List Answer) (left : Trees) : Type 0 where
  pub asked : List Request
  pub others : List Request
  pub first : requests ≡ asked ++ others
  pub given : List Answer
  pub later : List Answer
  pub told : answers ≡ given ++ later
  pub quiet : list_any is_change later ≡ false
  pub between : State
  pub run : IsRun s asked given between
  pub end : State
  pub ends : (end ≡ between) ⊎ (failed × FailsFirst between others later end)
  pub db : Database
  pub trees : left ≡ db.trees
  pub kept : IsKept db end

-- the requests are answered one after the other as the machine answers them, or with faults that
-- change nothing, and the desk stands for the state at the end while the connection is open; a
-- crash finds what it would have found before, or what is left so of a state from before
pub record HandlesLeaving (Leaves : State → Trees → Type 0) (old new : Held)
    (requests : List Request) (answers : List Answer) : Type 0 where
  pub count : length answers ≡ length requests
  pub honest : HasCleanDisk new.db → HasCleanDisk old.db
  pub opens : HasCleanDisk new.db → IsTrue new.db.is_open → IsTrue old.db.is_open
  pub answered : HasCleanDisk new.db → (s : State) → Keeps old s
      → (end : State) × IsRun s requests answers end × (IsTrue new.db.is_open → Keeps new end)
  -- a connection that was not open answers faults
  pub shut : HasCleanDisk new.db → (IsTrue old.db.is_open → ⊥) → All IsFault answers
  pub crash : Survives old.db new.db (λ left. IsTrue old.db.is_open
      × ((s : State) → Keeps old s → Leaves s left))
  -- once something is changed, a crash no longer finds what it would have found before
  pub lasts : HasCleanDisk new.db → list_any is_change answers ≡ true → (s : State) → Keeps old s
      → (left : Trees) → new.db.may_leave left → Leaves s left

-- a crash finds what it would have found before, or a state of this run from the last change on;
-- only where the first premise holds, also what a commit that failed was to keep
abbrev pub HandlesAll : Type 0 → Held → Held → List Request → List Answer → Type 0
HandlesAll failed old new requests answers =
    HandlesLeaving (λ s left. MayLeaveRun failed s requests answers left) old new requests answers

-- each request is answered as the machine answers it, one after the other
abbrev pub AreSteps : State → List Request → List Answer → State → Type 0
AreSteps s [] [] end = end ≡ s
AreSteps s [] (answer ∷ answers) end = ⊥
AreSteps s (request ∷ requests) [] end = ⊥
AreSteps s (request ∷ requests) (answer ∷ answers) end =
    (next : State) × Step s request answer next × AreSteps next requests answers end

-- there was no memory, or the store failed
abbrev pub is_fault : Answer → Bool
is_fault (Ok reply) = false
is_fault (Err refusal) = is_failure refusal

-- there is one answer for each request, none of which is a fault
pub record AreAnswers (requests : List Request) (answers : List Answer) : Type 0 where
  pub count : length answers ≡ length requests
  pub no_fault : list_any is_fault answers ≡ false

-- within a transaction over rows that stand for a state, the requests are answered so, the rows are
-- those of the machine's state at the end, and what is known stays right
abbrev pub ServesAll : Known → List Request → ServedAll → database.State → database.State → Tables
    → Type 0
ServesAll known requests served before after t =
    (s : State) → StandsFor t s → IsSound s → IsKnown known s
    → (end : State) × AreSteps s requests served.answers.items end × IsKept after.now end
    × IsKnown served.known end

-- what a crash may leave of a list of requests beside the tables from before it: those of the
-- machine's state at the end, with the answers that were given, if any were
pub record MayLeaveAll (s : State) (requests : List Request)
    (result : Result (List Answer) Refusal) (left : Trees) : Type 0 where
  pub answers : List Answer
  pub told : IfOk result (λ given. given ≡ answers)
  pub end : State
  pub steps : AreSteps s requests answers end
  pub db : Database
  pub trees : left ≡ db.trees
  pub kept : IsKept db end

-- the requests are answered so, or there is a fault, and the state is as it was
abbrev pub GoesTogether : State → List Request → Result (List Answer) Refusal → State → Type 0
GoesTogether s requests (Ok answers) end = AreSteps s requests answers end
GoesTogether s requests (Err refusal) end = ((refusal ≡ Memory) ⊎ (refusal ≡ Store)) × (end ≡ s)

-- the answers of a vector as a list
abbrev pub listed : {A : Type 0} → Result (Vec Answer A) Refusal → Result (List Answer) Refusal
listed (Ok answers) = Ok answers.items
listed (Err refusal) = Err refusal

-- some request was done, or its run posted or voided
abbrev pub some_change : Result (List Answer) Refusal → Bool
some_change (Ok answers) = list_any is_change answers
some_change (Err refusal) = false

-- all requests are answered as the machine answers them, and the desk stands for the state at the
-- end while the connection is open; or there is a fault, and it stands for the state as it was
pub record HandlesTogether (old new : Held) (requests : List Request)
    (result : Result (List Answer) Refusal) : Type 0 where
  pub honest : HasCleanDisk new.db → HasCleanDisk old.db
  pub opens : HasCleanDisk new.db → IsTrue new.db.is_open → IsTrue old.db.is_open
  pub answered : HasCleanDisk new.db → (s : State) → Keeps old s
      → (end : State) × GoesTogether s requests result end × (IsTrue new.db.is_open → Keeps new end)
  -- a connection that was not open answers faults
  pub shut : HasCleanDisk new.db → (IsTrue old.db.is_open → ⊥)
      → MatchResult result (All IsFault) (λ refusal. IsFault (Err refusal))
  -- a crash finds what it would have found before, or the machine's state at the end
  pub crash : Survives old.db new.db (λ left. IsTrue old.db.is_open
      × ((s : State) → Keeps old s → MayLeaveAll s requests result left))
  -- once something is changed, the connection is open, and a crash finds what is seen now
  pub lasts : HasCleanDisk new.db → some_change result ≡ true
      → IsTrue new.db.is_open × CrashLeaves new.db new.db.now

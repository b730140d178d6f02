-- What serving a connection leaves in the tables of a desk.
use Rattle.std.specs.Prelude.{◌≡◌, ℕ, List, [], ◌∷◌, IsTrue, map}
use Rattle.sqlite.specs.State.{HasCleanDisk}
use Rattle.sqlite.specs.Store as store
use Rattle.ftd_machine.specs.Checks.{Answer}
use Rattle.ftd_machine.specs.State.{State}
use Rattle.ftd_machine.specs.Runs.{Goes}
use Rattle.ftd_machine.specs.declared.requests.Request.{Request}
use Rattle.ftd_desk.specs.Desks.{Held, Keeps, held}
use Rattle.ftd_desk.specs.Words.{Handles, HandlesAll}
use Rattle.ftd_desk.specs.declared.desk.Desk.{Desk}
use Rattle.ftd_http.specs.Messages.{Message}
use Rattle.ftd_server.specs.Replying.{ByRequests}
use Rattle.ftd_connections.specs.Serving.{Answered, Broken}
use Rattle.ftd_connections.specs.declared.connection.Cause.{Cause}

-- a desk answers a request
abbrev pub handles : {S : Type 0} → store.Ghosts S → Desk S → Request → Answer → Desk S → Type 0
handles g desk request answer later = Handles (held g desk) (held g later) request answer

-- a desk that stood for a state stands for one that follows from it so while the connection is open
pub record Follows (old new : Held) (so : State → State → Type 0) : Type 0 where
  pub honest : HasCleanDisk new.db → HasCleanDisk old.db
  pub opens : HasCleanDisk new.db → IsTrue new.db.is_open → IsTrue old.db.is_open
  pub follows : HasCleanDisk new.db → (s : State) → Keeps old s
      → (end : State) × so s end × (IsTrue new.db.is_open → Keeps new end)
  -- over a connection that was not open each state follows from itself so
  pub shut : HasCleanDisk new.db → (IsTrue old.db.is_open → ⊥) → (s : State) → so s s

-- what gives the answers to these requests, each to the first of them that is left
abbrev pub Asked : Type 0
Asked = List (Request × Answer)

abbrev pub Gives : Asked → Request → Answer → Asked → Type 0
Gives now request answer later = now ≡ (request, answer) ∷ later

-- Requests one after the other were asked so, and handled with these answers, as a list of them is:
-- a crash finds what it would have found before, or the state after the first of them, behind which
-- no answer tells of a change, or what a commit that failed was to keep; and once something is
-- changed, it finds what was before no more.
pub record Handled (old new : Held) (so : Asked → Asked → Type 0) : Type 0 where
  pub asked : Asked
  pub are : so asked []
  pub handles : HandlesAll (Unit {0}) old new (map (λ it. it.0) asked) (map (λ it. it.1) asked)

-- the desk answers these messages as the machine does, and what they ask is handled so
pub record AnsweredBy (old new : Held) (messages : List Message) (text : List ℕ) : Type 0 where
  pub follows : Follows old new (λ s end. Answered (ByRequests Goes) s end messages text)
  pub handled : Handled old new (λ asked end. Answered (ByRequests Gives) asked end messages text)

-- the desk answers these messages as the machine does, and then serving fails in the rest; what was
-- asked is handled so
pub record BrokenBy (old new : Held) (messages : List Message) (text rest part : List ℕ)
    (cause : Cause) : Type 0 where
  pub follows : Follows old new
      (λ s end. Broken (ByRequests Goes) s end messages text rest part cause)
  pub handled : Handled old new
      (λ asked end. Broken (ByRequests Gives) asked end messages text rest part cause)

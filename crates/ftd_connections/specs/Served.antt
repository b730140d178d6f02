-- What a connection makes of what answers its messages, and connections one after the other.
use Rattle.std.specs.Prelude.{◌≡◌, ℕ, Bool, true, false, List, Option, Result, Ok, Err}
use Rattle.ftd_http.specs.declared.ask.Inquiry.{Inquiry}
use Rattle.ftd_connections.specs.Listening.{outcome_of}
use Rattle.ftd_connections.specs.Responses.{Said}
use Rattle.ftd_connections.specs.Serving.{Answered, Breaks, Broken, ServesMessages}
use Rattle.ftd_connections.specs.declared.arrivals.Arrival.TheVariants as arrival
use Rattle.ftd_connections.specs.declared.arrivals.Arrivals.{Ghosts}
use Rattle.ftd_connections.specs.declared.arrivals.Connection.{Connection}
use Rattle.ftd_connections.specs.declared.connection.End.{End}
use Rattle.ftd_connections.specs.declared.connection.End.TheVariants as end
use Rattle.ftd_connections.specs.declared.connection.ServeFault.{ServeFault}
use Rattle.ftd_connections.specs.declared.connection.ServedConnection.{ServedConnection}
use Rattle.ftd_connections.specs.declared.outcome.Outcome.{Outcome}
use Rattle.ftd_connections.specs.declared.outcome.Outcome.TheVariants as outcome

-- the server ends a connection, and its peer may still send
abbrev pub is_server_end : End → Bool
is_server_end end.Asked = true
is_server_end end.Limit = true
is_server_end end.BadMessage = true
is_server_end end.Closed = false
is_server_end end.Truncated = false
is_server_end end.Idle = false

-- a connection that the server ends lingers when it is closed
abbrev pub is_ended_here : Result ServedConnection ServeFault → Bool
is_ended_here (Ok served) = is_server_end served.end
is_ended_here (Err fault) = false

-- `left` has what a stream has left to read, `taken` what it has taken, and `may_be_silent` whether
-- its peer may be silent; `goes` has the machine, what a message asks, its body, the response, and
-- the machine after it
module _ {S M : Type 0} (left taken : S → Option (List ℕ)) (may_be_silent : S → Bool)
    (goes : M → Inquiry → List ℕ → Said → M → Type 0) where
  -- A connection as it was and as it is after it was served: what was read of it are messages up to
  -- an end, and what was written to it are their answers, which the machine gave; or its first
  -- messages were answered, and serving failed in the next one. Whether a read or a write had
  -- failed then, the connection does not tell.
  abbrev pub IsServed : M → Connection S → Result ServedConnection ServeFault → Connection S → M
      → Type 0
  IsServed now was (Ok served) is later =
      ServesMessages (Answered goes now later) (left was.reader) (left is.reader)
      (may_be_silent is.peer) (taken was.writer) (taken is.writer) served
  IsServed now was (Err fault) is later =
      (read_failed : Bool) × (write_failed : Bool)
      × Breaks (Broken goes now later) (left was.reader) (left is.reader) read_failed
      (taken was.writer) (taken is.writer) write_failed fault

  module _ {A : Type 0} (room : Ghosts A S) where
    -- What comes next of those that wait, and what becomes of it. There is none; or nothing came on
    -- a connection, which is closed as it was; or a connection is served, and closed as it is then:
    -- it lingers where the server ends it. Those that wait, and the machine, are before it `now`,
    -- and `later` after it.
    pub data TakesOne (now : A × M) : Outcome → A × M → Type 0 where
      missed : (later : A) → room.gives now.0 arrival.Missed later
          → TakesOne now outcome.Missed (later, now.1)
      idle : (connection : Connection S) (between later : A)
          → room.gives now.0 (arrival.Idle connection) between
          → room.closes between connection false later
          → TakesOne now outcome.Served (later, now.1)
      ready : (was is : Connection S) (result : Result ServedConnection ServeFault)
          (between later : A) (machine : M) → room.gives now.0 (arrival.Ready was) between
          → IsServed now.1 was result is machine
          → room.closes between is (is_ended_here result) later
          → TakesOne now (outcome_of result) (later, machine)

-- the machine is asked whether it still answers, while the others wait
abbrev pub StillAnswers : {A M : Type 0} → (M → Bool → M → Type 0) → A × M → Bool → A × M → Type 0
StillAnswers stays now answers later = (later.0 ≡ now.0) × stays now.1 answers later.1

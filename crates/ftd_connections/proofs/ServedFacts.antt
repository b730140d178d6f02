-- What becomes of what comes next of those that wait.
use Rattle.std.proofs.Common.{◌≡◌, ℕ, Bool, false, List, Option, Result}
use Rattle.ftd_http.specs.declared.ask.Inquiry.{Inquiry}
use Rattle.ftd_connections.specs.Listening.{outcome_of}
use Rattle.ftd_connections.specs.Responses.{Said}
use Rattle.ftd_connections.specs.Served.{IsServed, TakesOne, idle, is_ended_here, missed, ready}
use Rattle.ftd_connections.specs.declared.arrivals.Arrival.{Arrival}
use Rattle.ftd_connections.specs.declared.arrivals.Arrival.TheVariants as arrival
use Rattle.ftd_connections.specs.declared.arrivals.Arrivals.{Ghosts}
use Rattle.ftd_connections.specs.declared.arrivals.Connection.{Connection}
use Rattle.ftd_connections.specs.declared.connection.ServeFault.{ServeFault}
use Rattle.ftd_connections.specs.declared.connection.ServedConnection.{ServedConnection}
use Rattle.ftd_connections.specs.declared.outcome.Outcome.{Outcome}
use Rattle.ftd_connections.specs.declared.outcome.Outcome.TheVariants as outcome

module _ {S M A : Type 0} (left taken : S → Option (List ℕ)) (may_be_silent : S → Bool)
    (goes : M → Inquiry → List ℕ → Said → M → Type 0) (room : Ghosts A S)
    (before between later : A) (now : M) (given : Arrival S)
    (gives : room.gives before given between) where
  pub gives_none : given ≡ arrival.Missed
      → TakesOne left taken may_be_silent goes room (before, now) outcome.Missed (between, now)
  gives_none none = missed between (rw none at gives)

  pub gives_idle : (connection : Connection S) → given ≡ arrival.Idle connection
      → room.closes between connection false later
      → TakesOne left taken may_be_silent goes room (before, now) outcome.Served (later, now)
  gives_idle connection is closes = idle connection between later (rw is at gives) closes

  pub gives_ready : (was after : Connection S) (end : Result ServedConnection ServeFault)
      (machine : M) (became : Outcome) → given ≡ arrival.Ready was
      → IsServed left taken may_be_silent goes now was end after machine
      → (lingers : Bool) → room.closes between after lingers later → lingers ≡ is_ended_here end
      → became ≡ outcome_of end
      → TakesOne left taken may_be_silent goes room (before, now) became (later, machine)
  gives_ready was after end machine became is served lingers closes ends so =
      rw so (ready was after end between later machine (rw is at gives) served
      (rw ends at closes))

-- what comes next, by what was given
pub ruleset given_next = (
  gives_none,
  gives_idle,
  gives_ready,
)

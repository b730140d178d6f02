-- What a request does to the database.
use Rattle.sqlite.specs.Effect.{Database}
use Rattle.sqlite.specs.State as database
use Rattle.ftd_sql.specs.Standing.{Tables, Stands}
use Rattle.ftd_machine.specs.State.{State}
use Rattle.ftd_machine.specs.Sound.{IsSound}
use Rattle.ftd_machine.specs.Checks.{Answer}
use Rattle.ftd_machine.specs.Step.{Step}
use Rattle.ftd_machine.specs.declared.requests.Request.{Request}
use Rattle.ftd_entries.specs.Standing.{StandsFor}

-- the database keeps this state
pub record IsKept (db : Database) (s : State) : Type 0 where
  pub tables : Tables
  pub stands : Stands db tables
  pub stands_for : StandsFor tables s
  pub sound : IsSound s

-- within a transaction over rows that stand for a state, the request is answered as the machine
-- answers it, and the rows are those of the machine's next state
abbrev pub Serves : Request → Answer → database.State → database.State → Tables → Type 0
Serves request answer before after t =
    (s : State) → StandsFor t s → IsSound s
    → (next : State) × Step s request answer next × IsKept after.now next

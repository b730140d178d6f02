-- What is seen of a database that is being opened, and how the opening ended.
use Rattle.std.specs.Prelude.{Result, Ok, Err}
use Rattle.sqlite.specs.Store as store
use Rattle.sqlite.specs.State.{State}
use Rattle.sqlite.specs.Held.{state}
use Rattle.sqlite.specs.declared.connection.Connection.{Connection}
use Rattle.ftd_setup.specs.declared.opening.Found.{Found}
use Rattle.ftd_setup.specs.declared.opening.UnopenedDatabase.{UnopenedDatabase}
use Rattle.ftd_setup.specs.declared.opening.OpenFault.{OpenFault}

abbrev pub seen_of : {S : Type 0} → store.Ghosts S → Found S → State
seen_of g it = state g it.conn

-- what is seen of the database then, and the outcome
abbrev pub Ended : {S : Type 0} → store.Ghosts S → Result (Connection S) (UnopenedDatabase S)
    → (State → Result (Unit {0}) OpenFault → Type 0) → Type 0
Ended g (Ok it) P = P (state g it) (Ok tt)
Ended g (Err e) P = P (state g e.connection) (Err e.fault)

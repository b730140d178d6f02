-- For which state a desk stands that was opened over a database.
use Rattle.std.specs.Prelude.{◌≡◌, ℕ, false, Result, Ok, Err}
use Rattle.sqlite.specs.Does.{lacks_sequence}
use Rattle.sqlite.specs.Held as connection
use Rattle.sqlite.specs.State as database
use Rattle.sqlite.specs.State.{HasCleanDisk}
use Rattle.sqlite.specs.Store as store
use Rattle.ftd_sql.specs.Making.{IsFree}
use Rattle.ftd_sql.specs.Beginnings.{IsEarlier}
use Rattle.ftd_sql.specs.Standing.{Tables, StandsAs}
use Rattle.ftd_setup.specs.Versions.{IsNew}
use Rattle.ftd_setup.specs.declared.opening.UnopenedDatabase.{UnopenedDatabase}
use Rattle.ftd_setup.specs.declared.opening.OpenFault.{OpenFault}
use Rattle.ftd_store.specs.Seen.{seen}
use Rattle.ftd_machine.specs.State.{State, nothing}
use Rattle.ftd_machine.specs.Sound.{IsSound}
use Rattle.ftd_entries.specs.Standing.{StandsForEarlier}
use Rattle.ftd_desk.specs.Desks.{Held, Rests, Keeps}
use Rattle.ftd_desk.specs.declared.desk.Desk.{Desk}

-- what is seen of the database then, and the outcome
abbrev pub Ended : {S : Type 0} → store.Ghosts S → Result (Desk S) (UnopenedDatabase S)
    → (database.State → Result (Unit {0}) OpenFault → Type 0) → Type 0
Ended g (Ok desk) P = P (seen g desk.store) (Ok tt)
Ended g (Err e) P = P (connection.state g e.connection) (Err e.fault)

-- the desk that was opened over the database stands for what its tables stood for
pub record Opens (old : database.State) (new : Held) : Type 0 where
  -- a new database, in which none of the sixteen names is taken and the tables can be made: nothing
  -- was entered
  pub new_database : HasCleanDisk new.db → IsNew old.now.schema → IsFree old.now.schema
      → Keeps new nothing
  -- one of version 3, in which a state rests: that state
  pub kept : HasCleanDisk new.db → (s : State) → Rests old s → Keeps new s
  -- one of version 1 or 2, whose tables stand for a sound state: that state. The last premise
  -- leaves out databases that count rows (AUTOINCREMENT) and have lost the table of counts.
  pub migrated : HasCleanDisk new.db → (version : ℕ) (t : Tables) (s : State) → IsEarlier version
      → StandsAs version old.now t → StandsForEarlier version t s → IsSound s
      → lacks_sequence old.now.schema ≡ false → Keeps new s

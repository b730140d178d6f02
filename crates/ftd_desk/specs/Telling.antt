-- What a question that is answered outside a transaction leaves.
use Rattle.std.specs.Prelude.{IsTrue}
use Rattle.sqlite.specs.State.{HasCleanDisk}
use Rattle.ftd_machine.specs.State.{State}
use Rattle.ftd_sql.specs.States.{CrashKeeps}
use Rattle.ftd_desk.specs.Desks.{Held, Keeps}

-- the desk stands for the state as it was, and a crash finds what it would have found before
pub record StandsAsBefore (old new : Held) : Type 0 where
  pub honest : HasCleanDisk new.db → HasCleanDisk old.db
  pub opens : HasCleanDisk new.db → IsTrue new.db.is_open → IsTrue old.db.is_open
  pub stands : HasCleanDisk new.db → IsTrue new.db.is_open → (s : State) → Keeps old s → Keeps new s
  pub crash : CrashKeeps old.db new.db

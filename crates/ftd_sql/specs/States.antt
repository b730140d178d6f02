-- What a step keeps of a database.
use Rattle.std.specs.Prelude.{◌≡◌, true}
use Rattle.sqlite.specs.Store as store
use Rattle.sqlite.specs.State.{State, Survives, Shows}
use Rattle.sqlite.specs.Held.{state}
use Rattle.sqlite.specs.declared.transaction.Transaction.{Transaction}

-- a crash now finds what it would have found before
abbrev pub CrashKeeps : State → State → Type 0
CrashKeeps old new = Survives old new (λ _. ⊥)

-- the rows that are seen and those that are committed are the same
abbrev pub ShowsAgain : State → State → Type 0
ShowsAgain old new = (new.now ≡ old.now) × (new.committed ≡ old.committed)

-- what a transaction of the engine shows
abbrev pub within : {S : Type 0} → store.Ghosts S → Transaction S → State
within g tx = state g tx.conn.now

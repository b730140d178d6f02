-- A step inside a transaction of the engine.
use Rattle.std.specs.Prelude.{◌≡◌, Result, IfOk, OnOk}
use Rattle.sqlite.specs.Store as store
use Rattle.sqlite.specs.State.{State, HasCleanDisk, KeepsCommit}
use Rattle.sqlite.specs.declared.transaction.Transaction.{Transaction}
use Rattle.ftd_store.specs.declared.faults.StoreFault.{StoreFault}
use Rattle.ftd_sql.specs.States.{CrashKeeps, within}

-- what the step keeps, whatever comes of it, and what it did with Ok
pub record Steps {S A : Type 0} (g : store.Ghosts S) (old new : Transaction S)
    (result : Result A StoreFault) (Does : A → State → State → Type 0) : Type 0 where
  -- it stays a transaction on the same connection
  pub same : new.conn.ghost_name ≡ old.conn.ghost_name
  -- with Ok it is in a transaction as before
  pub mode : HasCleanDisk (within g new)
      → OnOk result ((within g new).in_transaction ≡ (within g old).in_transaction)
  -- nothing is committed
  pub kept : HasCleanDisk (within g new) → KeepsCommit (within g old) (within g new)
  -- a crash finds what it would have found
  pub crash : CrashKeeps (within g old) (within g new)
  pub does : HasCleanDisk (within g new) → IfOk result (λ x. Does x (within g old) (within g new))

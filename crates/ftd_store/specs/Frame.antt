-- What a call on a transaction does, whatever call it is.
use Rattle.std.specs.Prelude.{◌≡◌, true, false, ℕ, List, [], ◌∷◌, Result, Ok, Err, IfOk, OnOk}
use Rattle.std.specs.Borrow.{MutBor}
use Rattle.sqlite.specs.Order.{Row}
use Rattle.sqlite.specs.Store as store
use Rattle.sqlite.specs.State.{State, Shows, IsUnchanged, KeepsCommit, HasCleanDisk, Shown}
use Rattle.ftd_sql.specs.States.{CrashKeeps}
use Rattle.ftd_sql.specs.Standing.{Tables, Stands, Becomes}
use Rattle.ftd_store.specs.declared.faults.StoreFault.{StoreFault}
use Rattle.ftd_store.specs.declared.faults.StoreFault.TheVariants.{Failed}
use Rattle.ftd_store.specs.declared.store.Store.{Store}
use Rattle.ftd_store.specs.declared.tx.Tx.{Tx}
use Rattle.ftd_store.specs.Seen.{shown}

-- a call of the transaction has failed
abbrev pub HasFailed : {S : Type 0} → Tx S → Type 0
HasFailed tx = tx.failed ≡ true

-- a call that succeeds leaves the transaction sound, as it was; one that fails leaves it failed
abbrev pub TellsFailure : {S A : Type 0} → Tx S → Tx S → Result A StoreFault → Type 0
TellsFailure old new (Ok x) = (old.failed ≡ false) × (new.failed ≡ false)
TellsFailure old new (Err e) = HasFailed new

-- the transaction is one of this store
abbrev pub Borrows : {S : Type 0} → Tx S → MutBor (Store S) → Type 0
Borrows tx store = tx.store.ghost_name ≡ store.ghost_name

-- what every call keeps, whatever the rows are and whatever comes of it
pub record Frame {S A : Type 0} (g : store.Ghosts S) (old new : Tx S)
    (result : Result A StoreFault) : Type 0 where
  -- it stays a transaction of the same store
  pub same : new.store.ghost_name ≡ old.store.ghost_name
  -- a transaction of which a call failed has failed for good
  pub told : TellsFailure old new result
  -- and then answers `Failed`, and touches nothing
  pub stopped : HasFailed old → (result ≡ Err Failed) × (new.store.now ≡ old.store.now)
  -- with Ok it is open, in the same mode, over the same last commit
  pub stays : HasCleanDisk (shown g new)
      → OnOk result (Shows (shown g old) (shown g new) (shown g new).now (shown g old).committed
      (shown g old).in_transaction)
  -- nothing is committed
  pub kept : HasCleanDisk (shown g new) → KeepsCommit (shown g old) (shown g new)
  -- a crash finds what it would have found
  pub crash : CrashKeeps (shown g old) (shown g new)

-- a call: what it keeps, and with Ok what it does to a database that stands for these rows
pub record Calls {S A : Type 0} (g : store.Ghosts S) (old new : Tx S) (result : Result A StoreFault)
    (Does : A → State → State → Tables → Type 0) : Type 0 where
  pub frame : Frame g old new result
  pub does : HasCleanDisk (shown g new)
      → IfOk result (λ x. (t : Tables) → Stands (shown g old).now t
      → Does x (shown g old) (shown g new) t)

-- a call that tells this of the rows, and changes nothing
abbrev pub Reads : {S A : Type 0} → store.Ghosts S → Tx S → Tx S → Result A StoreFault
    → (A → Tables → Type 0) → Type 0
Reads g old new result Fact =
    Calls g old new result (λ x before after t. Fact x t × IsUnchanged before after)

-- a call that changes the rows so, and keeps every table of another name
abbrev pub Writes : {S A : Type 0} → store.Ghosts S → Tx S → Tx S → Result A StoreFault
    → (Tables → Tables) → Type 0
Writes g old new result change =
    Calls g old new result (λ x before after t. Becomes before.now after.now (change t))

-- a call that makes other rows of those that there are, which stand so to them, and keeps every
-- table of another name
abbrev pub Rewrites : {S A : Type 0} → store.Ghosts S → Tx S → Tx S → Result A StoreFault
    → (A → Tables → Tables → Type 0) → Type 0
Rewrites g old new result So =
    Calls g old new result
    (λ x before after t. (u : Tables) × So x t u × Becomes before.now after.now u)

-- there is exactly one such row
abbrev pub IsOne : {X : Type 0} → List X → Type 0
IsOne {X = X} rows = (x : X) × (rows ≡ x ∷ [])

-- a call that changes the rows so, where there is exactly one of these
abbrev pub WritesOne : {S A X : Type 0} → store.Ghosts S → Tx S → Tx S → Result A StoreFault
    → (Tables → List X) → (Tables → Tables) → Type 0
WritesOne g old new result found change =
    Calls g old new result
    (λ x before after t. IsOne (found t) × Becomes before.now after.now (change t))

-- a call that runs this query, and reads its answer so
pub record Queries {S A : Type 0} (g : store.Ghosts S) (old new : Tx S)
    (result : Result A StoreFault) (sql : List ℕ) (params : Row)
    (IsRead : A → List Row → Type 0) : Type 0 where
  pub frame : Frame g old new result
  pub same : HasCleanDisk (shown g new) → OnOk result (IsUnchanged (shown g old) (shown g new))
  pub showed : HasCleanDisk (shown g new)
      → IfOk result (λ x. (rows : List Row) × Shown sql params (shown g old) (shown g new) rows
      × IsRead x rows)

-- What the file of a desk and its log hold, and what a desk stands for that is opened over them.
use Rattle.std.specs.Prelude.{◌≡◌, ◌⊎◌, ℕ, List, [], IfOk, IsTrue, Result}
use Rattle.sqlite_disk.specs.declared.Disk.{Ghosts}
use Rattle.sqlite_disk.specs.declared.Files.{Files}
use Rattle.sqlite_disk.specs.declared.memory.Memory.{Memory}
use Rattle.sqlite_disk.specs.Memory.{memory_bytes}
use Rattle.sqlite_store.specs.declared.store.FileStore.{FileStore}
use Rattle.sqlite_wal.specs.Files.{outcomes}
use Rattle.sqlite_wal.specs.Reads.{AreClean}
use Rattle.sqlite_wal.specs.Recovery.{Image}
use Rattle.sqlite.specs.Effect.{Database, IsDatabase}
use Rattle.sqlite.specs.Files.{HoldsDatabase, IsNothing, image_of, over_files}
use Rattle.sqlite.specs.State.{HasCleanDisk}
use Rattle.ftd_machine.specs.State.{State, nothing}
use Rattle.ftd_entries.specs.Words.{IsKept}
use Rattle.ftd_desk.specs.Desks.{Held, IsStopped, Keeps, held}
use Rattle.ftd_desk.specs.declared.desk.Desk.{Desk}
use Rattle.ftd_files.specs.declared.faults.ProgramFault.{ProgramFault}

-- the bytes of the file and of its log hold a database whose tables keep this state
pub record HoldsState (image : Image) (s : State) : Type 0 where
  pub db : Database
  pub is_database : IsDatabase db
  pub kept : IsKept db s
  pub holds : ∥ HoldsDatabase image db.trees ∥₁

-- they stand for a state: they hold it, or they hold no database yet, and nothing was entered
abbrev pub StandFor : Image → State → Type 0
StandFor image s = HoldsState image s ⊎ (IsNothing image × (s ≡ nothing))

-- the bytes of a file and of its log in memory
abbrev pub image_in : Files Memory → Image
image_in files = record { log = memory_bytes files.log; db = memory_bytes files.db }

-- the bytes of a file without a log
abbrev pub alone : List ℕ → Image
alone bytes = record { log = []; db = bytes }

-- a desk stands for each state for which these bytes stand
abbrev pub StandsOver : Image → Held → Type 0
StandsOver image desk = HasCleanDisk desk.db → (s : State) → StandFor image s → Keeps desk s

-- a state rests in files: their bytes hold it, and so do those of the file alone, and the bytes that
-- a crash may leave of them
pub record RestsInFiles {D : Type 0} (g : Ghosts D) (files : Files D) (s : State) : Type 0 where
  pub now : HoldsState (image_of g files) s
  pub without_log : HoldsState (alone (g.seen files.db)) s
  pub after_crash : (image : Image) → outcomes g files.log files.db image → HoldsState image s

-- each state for which a desk stood rests in the files, where these told the truth
abbrev pub KeepsInFiles : {D : Type 0} → Ghosts D → Held → Files D → Type 0
KeepsInFiles g desk files =
    AreClean g files.log files.db → (s : State) → Keeps desk s → RestsInFiles g files s

module _ {D : Type 0} (g : Ghosts D)
    (Becomes : Desk (FileStore D g) → Desk (FileStore D g) → Type 0)
    (files : Result (Files D) ProgramFault) where
  -- a desk became another so, and each state for which that stands rests in the files after it,
  -- unless they could not be closed
  pub record ClosesAfter (old : Desk (FileStore D g)) : Type 0 where
    pub new : Desk (FileStore D g)
    pub becomes : Becomes old new
    pub keeps : IfOk files (KeepsInFiles g (held over_files new))

  -- so a desk that was opened over files with these bytes: it stands for each state for which they
  -- stand
  pub record GoesInFiles (image : Image) : Type 0 where
    pub old : Desk (FileStore D g)
    pub goes : ¬ IsStopped old
    pub stands : StandsOver image (held over_files old)
    pub closes : ClosesAfter old

-- a desk whose files told the truth as they were closed was open, and its database told the truth
abbrev pub ClosesHonest : {D : Type 0} → Ghosts D → Held → Files D → Type 0
ClosesHonest g desk files =
    AreClean g files.log files.db → HasCleanDisk desk.db × IsTrue desk.db.is_open

-- a file in memory holds each state for which a desk stood, alone and with no log; the desk was
-- open, and its database told the truth
pub record KeepsAlone (desk : Held) (file : Memory) : Type 0 where
  pub holds : (s : State) → Keeps desk s → HoldsState (alone (memory_bytes file)) s
  pub honest : HasCleanDisk desk.db
  pub is_open : IsTrue desk.db.is_open

-- a desk was opened over a copy in memory of files with these bytes: it stands for each state for
-- which they stand, if the disk told the truth as they were read; and they have the same bytes
pub record IsCopied {D : Type 0} (g : Ghosts D) (image : Image) (desk : Held) (files : Files D)
    : Type 0 where
  pub stands : AreClean g files.log files.db → StandsOver image desk
  pub kept : image_of g files ≡ image

-- so a desk that answers, which became another
pub record GoesInCopy {D M : Type 0} (g : Ghosts D) (memory : Ghosts M)
    (Becomes : Desk (FileStore M memory) → Desk (FileStore M memory) → Type 0) (files : Files D)
    (image : Image) : Type 0 where
  pub old : Desk (FileStore M memory)
  pub new : Desk (FileStore M memory)
  pub goes : ¬ IsStopped old
  pub copied : IsCopied g image (held over_files old) files
  pub becomes : Becomes old new

-- A job, and a backup, with a desk over a copy in memory of files.
use Rattle.std.specs.Prelude.{◌≡◌, ℕ, Bool, List, Option, Some, IfSome, IsSome}
use Rattle.sqlite.specs.Files.{over_files}
use Rattle.sqlite_disk.specs.declared.Disk.{Ghosts}
use Rattle.sqlite_disk.specs.declared.Files.{Files}
use Rattle.sqlite_disk.specs.declared.memory.Memory.{Memory}
use Rattle.sqlite_disk.specs.Memory.{memory_bytes}
use Rattle.sqlite_store.specs.declared.store.FileStore.{FileStore}
use Rattle.sqlite_wal.specs.Reads.{AreClean}
use Rattle.sqlite_wal.specs.Recovery.{Image}
use Rattle.ftd_machine.specs.State.{State}
use Rattle.ftd_files.specs.Resting.{GoesInCopy, HoldsState, StandFor, alone}
use Rattle.ftd_program.specs.Doing.{Does}
use Rattle.ftd_program.specs.declared.performing.JobEnd.{JobEnd}
use Rattle.ftd_local.specs.Checking.{ChecksDesk}
use Rattle.ftd_local.specs.declared.copies.Backup.{Backup}
use Rattle.ftd_local.specs.declared.copies.CopyEnd.{CopyEnd}
use Rattle.ftd_local.specs.declared.jobs.FileJob.{FileJob}
use Rattle.ftd_local.specs.declared.jobs.Streams.{Streams}

module _ {O E : Type 0} (o_taken : O → Option (List ℕ)) (o_failed : O → Bool)
    (e_taken : E → Option (List ℕ)) (e_failed : E → Bool) (streams : Streams O E)
    (asked : FileJob) {D M : Type 0} (g : Ghosts D) (memory : Ghosts M) (done : CopyEnd D O E) where
  -- a job was done with a desk over a copy in memory of files with these bytes, which they keep
  abbrev pub DoesInCopy : Image → Type 0
  DoesInCopy image =
      GoesInCopy g memory
      (λ old new. Does over_files o_taken o_failed e_taken e_failed streams.out streams.err done.end
      old new asked.input.now asked.db.now asked.job)
      done.files image

-- the bytes of the copy hold each state for which those of the files stand, with no log beside
-- them, if the disk told the truth as these were read
abbrev pub HoldsEach : {D : Type 0} → Ghosts D → Files D → Image → Memory → Type 0
HoldsEach g files image copy =
    AreClean g files.log files.db → (s : State) → StandFor image s
    → HoldsState (alone (memory_bytes copy)) s

-- a desk over a copy in memory of files with these bytes, which they keep, was checked, and there
-- is a copy exactly where the check ends with status 0
pub record BacksUp {D : Type 0} (g : Ghosts D) (memory : Ghosts Memory) (made : Backup D)
    (db : List ℕ) (image : Image) : Type 0 where
  pub checks : GoesInCopy g memory (λ old new. ChecksDesk over_files old new db made.found)
      made.files image
  pub is_made : made.found.status ≡ 0 → IsSome made.copy
  pub holds : IfSome made.copy
      (λ copy. (made.found.status ≡ 0) × HoldsEach g made.files image copy)

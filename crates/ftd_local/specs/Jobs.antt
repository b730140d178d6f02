-- A job over the desk of a file: its words, the file before, what is printed, and the file after.
use Rattle.std.specs.Prelude.{ℕ, Bool, List, Option}
use Rattle.sqlite.specs.Files.{over_files}
use Rattle.sqlite_disk.specs.declared.Disk.{Ghosts}
use Rattle.sqlite_store.specs.declared.store.FileStore.{FileStore}
use Rattle.sqlite_wal.specs.Recovery.{Image}
use Rattle.ftd_desk.specs.declared.desk.Desk.{Desk}
use Rattle.ftd_files.specs.Resting.{ClosesAfter, GoesInFiles}
use Rattle.ftd_program.specs.Doing.{Does}
use Rattle.ftd_local.specs.declared.jobs.FileJob.{FileJob}
use Rattle.ftd_local.specs.declared.jobs.FilesEnd.{FilesEnd}
use Rattle.ftd_local.specs.declared.jobs.Streams.{Streams}

module _ {O E : Type 0} (o_taken : O → Option (List ℕ)) (o_failed : O → Bool)
    (e_taken : E → Option (List ℕ)) (e_failed : E → Bool) (streams : Streams O E)
    (asked : FileJob) {D : Type 0} (g : Ghosts D) (done : FilesEnd D O E) where
  -- a desk becomes another by the job, which prints what came of it and ends with its exit status
  abbrev pub DoesJob : Desk (FileStore D g) → Desk (FileStore D g) → Type 0
  DoesJob old new =
      Does over_files o_taken o_failed e_taken e_failed streams.out streams.err done.end old new
      asked.input.now asked.db.now asked.job

  -- the job was done with the desk of files, which were closed
  abbrev pub DoesInFiles : Desk (FileStore D g) → Type 0
  DoesInFiles old = ClosesAfter g DoesJob done.files old

  -- so with a desk that was opened over files with these bytes
  abbrev pub DoesFrom : Image → Type 0
  DoesFrom image = GoesInFiles g DoesJob done.files image

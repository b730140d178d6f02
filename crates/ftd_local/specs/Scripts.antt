-- A script over the desk of a file: its bytes, the file before, what is printed, and the file
-- after.
use Rattle.std.specs.Prelude.{ℕ, Bool, true, List, Option}
use Rattle.std.specs.String.{string_bytes}
use Rattle.sqlite.specs.Files.{over_files}
use Rattle.sqlite_disk.specs.declared.Disk.{Ghosts}
use Rattle.sqlite_store.specs.declared.store.FileStore.{FileStore}
use Rattle.sqlite_wal.specs.Recovery.{Image}
use Rattle.ftd_desk.specs.declared.desk.Desk.{Desk}
use Rattle.ftd_files.specs.Resting.{ClosesAfter, GoesInFiles}
use Rattle.ftd_shell.specs.Scripts.{AnswersScript}
use Rattle.ftd_shell.specs.Shells.{Ways}
use Rattle.ftd_local.specs.declared.jobs.FilesEnd.{FilesEnd}
use Rattle.ftd_local.specs.declared.jobs.Streams.{Streams}
use Rattle.ftd_local.specs.declared.scripts.FileScript.{FileScript}

-- a shell over a file does imports
abbrev pub ways_in : {N : Type 0} → FileScript N → Ways
ways_in asked = record {
  db = string_bytes asked.db;
  does_imports = true;
  shows = asked.shows;
}

module _ {N O E : Type 0} (o_taken : O → Option (List ℕ)) (o_failed : O → Bool)
    (e_taken : E → Option (List ℕ)) (e_failed : E → Bool) (streams : Streams O E)
    (asked : FileScript N) (bytes : Option (List ℕ)) (failed : Bool) {D : Type 0} (g : Ghosts D)
    (done : FilesEnd D O E) where
  -- a desk becomes another by the lines of a script with these bytes, whose source may have failed;
  -- what they print is printed, and the exit status is theirs
  abbrev pub AnswersLines : Desk (FileStore D g) → Desk (FileStore D g) → Type 0
  AnswersLines old new =
      AnswersScript over_files o_taken o_failed e_taken e_failed streams.out streams.err done.end
      old new (ways_in asked) bytes failed asked.has_stop

  -- the lines were answered with the desk of files, which were closed
  abbrev pub AnswersInFiles : Desk (FileStore D g) → Type 0
  AnswersInFiles old = ClosesAfter g AnswersLines done.files old

  -- so with a desk that was opened over files with these bytes
  abbrev pub AnswersFrom : Image → Type 0
  AnswersFrom image = GoesInFiles g AnswersLines done.files image

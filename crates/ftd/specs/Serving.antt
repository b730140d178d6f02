-- What a server makes of the files of its desk.
use Rattle.std.specs.Prelude.{◌≡◌, ℕ, Bool, List, Option, Result}
use Rattle.sqlite.specs.Files.{over_files}
use Rattle.sqlite_disk.specs.declared.Disk.{Ghosts}
use Rattle.sqlite_store.specs.declared.store.FileStore.{FileStore}
use Rattle.sqlite_wal.specs.Recovery.{Image}
use Rattle.ftd_ports.specs.declared.writing.WriteFault.{WriteFault}
use Rattle.ftd_desk.specs.declared.desk.Desk.{Desk}
use Rattle.ftd_files.specs.Resting.{ClosesAfter, GoesInFiles}
use Rattle.ftd_connections.specs.Listening.{HasTaken}
use Rattle.ftd_connections.specs.Served.{StillAnswers, TakesOne}
use Rattle.ftd_connections.specs.Watched.{AnswersWatched, StaysWatched}
use Rattle.ftd_connections.specs.declared.arrivals.Arrivals as arrivals
use Rattle.ftd_connections.specs.declared.watched.Watched.{Watched}
use Rattle.ftd_shell.specs.declared.shell.Shell.{Shell}
use Rattle.ftd.specs.Commands.{AsksDesk, Responds, file_of}
use Rattle.ftd.specs.declared.server.FilesServed.{FilesServed}

-- `told` has the day that the clock told last, and `tells` what the watch may tell; `left` has what
-- a stream has left to read, `taken` what it has taken, and `may_be_silent` whether its peer may be
-- silent; `room` has which connection comes next of those that wait, `now` and `later`, and which is
-- closed
module _ {N W : Type 0} (told : N → Option ℕ) (tells : W → Bool → Type 0)
    {A S : Type 0} (left taken : S → Option (List ℕ)) (may_be_silent : S → Bool)
    (room : arrivals.Ghosts A S) (now later : A)
    (err_before err_after : Option (List ℕ)) (failed : Bool) (db : List ℕ) (first : ℕ) {D : Type 0} (g : Ghosts D)
    (done : FilesServed D) where
  -- A desk becomes another by connections that are taken after the first ones, one after the other:
  -- what is read of each are messages, what is written to it are their answers, which the shell of
  -- this file gives as long as the watch does not tell that the files are others, and those that fail
  -- are told.
  pub record Serves (old new : Desk (FileStore D g)) : Type 0 where
    pub start : Watched (Shell (FileStore D g) N) W
    pub end : Watched (Shell (FileStore D g) N) W
    pub starts : start.machine.desk ≡ old
    pub ends : end.machine.desk ≡ new
    pub file_is : file_of start.machine ≡ db
    pub lines : Result (Unit {0}) WriteFault
    pub takes : HasTaken
        (TakesOne left taken may_be_silent (AnswersWatched tells (Responds over_files told)) room)
        (StillAnswers (StaysWatched tells (AsksDesk over_files))) (now, start) (later, end)
        lines err_before err_after failed first done.taken

  -- connections were served with the desk of files, which were closed
  abbrev pub ServesInFiles : Desk (FileStore D g) → Type 0
  ServesInFiles old = ClosesAfter g Serves done.files old

  -- so with a desk that was opened over files with these bytes
  abbrev pub ServesFrom : Image → Type 0
  ServesFrom image = GoesInFiles g Serves done.files image

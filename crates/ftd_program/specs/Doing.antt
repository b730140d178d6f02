-- What the job of a task does.
use Rattle.std.specs.Prelude.{ℕ, Bool, true, false, List, Option}
use Rattle.sqlite.specs.Store as store
use Rattle.ftd_desk.specs.declared.desk.Desk.{Desk}
use Rattle.ftd_cli.specs.declared.tasks.Job.{Job}
use Rattle.ftd_cli.specs.declared.tasks.Job.TheVariants as job
use Rattle.ftd_program.specs.Checking.{Checks}
use Rattle.ftd_program.specs.Journals.{Journals}
use Rattle.ftd_program.specs.OpenYears.{OpensYears}
use Rattle.ftd_program.specs.Performing.{Asks, AsksNext, PerformsImport, PerformsTrial}
use Rattle.ftd_program.specs.Settling.{Settles}
use Rattle.ftd_program.specs.declared.performing.JobEnd.{JobEnd}

module _ {S O E : Type 0} (g : store.Ghosts S) (o_taken : O → Option (List ℕ)) (o_failed : O → Bool)
    (e_taken : E → Option (List ℕ)) (e_failed : E → Bool)
    (out : O) (err : E) (p : JobEnd O E) where
  -- the job of a task was done, with the desk of this file
  abbrev pub Does : Desk S → Desk S → List ℕ → List ℕ → Job → Type 0
  Does old new input db (job.Import kind file false) =
      PerformsImport g o_taken o_failed e_taken e_failed out err p old new kind input
  Does old new input db (job.Import kind file true) =
      PerformsTrial g o_taken o_failed e_taken e_failed out err p old new kind input
  Does old new input db (job.Ask format request) =
      Asks g o_taken o_failed e_taken e_failed out err p old new db format request
  Does old new input db (job.AskNext request) =
      AsksNext g o_taken o_failed e_taken e_failed out err p old new db request
  Does old new input db (job.OpenYears year) =
      OpensYears g o_taken o_failed e_taken e_failed out err p old new db year
  Does old new input db (job.Settle asked) =
      Settles g o_taken o_failed e_taken e_failed db asked.account asked.due out err p old new
      asked.paid
  Does old new input db job.Check =
      Checks g o_taken o_failed e_taken e_failed out err p old new db
  Does old new input db (job.Journal account) =
      Journals g o_taken o_failed e_taken e_failed out err p old new db account

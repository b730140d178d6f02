-- What a line of a script may ask of a shell.
use Rattle.std.specs.Prelude.{◌||◌, Bool, false, true, Option, None, Some, Err, Ok, Result, not}
use Rattle.std.specs.Prelude.{if◌then◌else◌}
use Rattle.ftd_cli.specs.declared.tasks.CliFault.{CliFault}
use Rattle.ftd_cli.specs.declared.tasks.Job.{Job}
use Rattle.ftd_cli.specs.declared.tasks.Job.TheVariants as job
use Rattle.ftd_cli.specs.declared.tasks.Task.{Task}
use Rattle.ftd_cli.specs.declared.tasks.Task.TheVariants as task

-- an import reads a file, and no other job does
abbrev pub reads_file : Job → Bool
reads_file (job.Import sheet file is_trial) = true
reads_file other = false

-- a shell does each job but imports, and those where it does imports
abbrev pub is_for_shell : Bool → Job → Bool
is_for_shell does_imports asked = does_imports || not (reads_file asked)

-- the job, if it is one that a shell does, which does imports or not
abbrev pub job_if : Bool → Job → Option Job
job_if does_imports asked = if is_for_shell does_imports asked then Some asked else None

-- the job that a task does with a desk, if it is such a one
abbrev pub job_of : Bool → Task → Option Job
job_of does_imports (task.Local local) = job_if does_imports local.job
job_of does_imports other = None

-- the job that a shell does of what was decided
abbrev pub job_asked : Bool → Result Task CliFault → Result (Option Job) CliFault
job_asked does_imports (Ok task) = Ok (job_of does_imports task)
job_asked does_imports (Err fault) = Err fault

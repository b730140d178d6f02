-- What becomes of a file that is not there.
use Rattle.std.specs.Prelude.{Bool, true, false}
use Rattle.ftd_csv.specs.declared.sheets.Sheet.{Sheet}
use Rattle.ftd_csv.specs.declared.sheets.Sheet.TheVariants as sheet
use Rattle.ftd_machine.specs.declared.requests.Question.{Question}
use Rattle.ftd_machine.specs.declared.requests.Question.TheVariants as question
use Rattle.ftd_machine.specs.declared.requests.Request.{Request}
use Rattle.ftd_machine.specs.declared.requests.Request.TheVariants as request
use Rattle.ftd_machine.specs.declared.requests.Entry.TheVariants as entry
use Rattle.ftd_machine.specs.declared.entries.ReturnPeriod.TheVariants.{Quarter, Year}
use Rattle.ftd_cli.specs.declared.tasks.Job.{Job}
use Rattle.ftd_cli.specs.declared.tasks.Job.TheVariants as job
use Rattle.ftd_local.specs.declared.beginning.Beginning.{Beginning}
use Rattle.ftd_local.specs.declared.beginning.Beginning.TheVariants.{Makes, Tells, Needs}

-- an import: a desk may begin by accounts, and pay runs keep their answer over a new file
abbrev pub beginning_of_import : Sheet → Bool → Beginning
beginning_of_import kind true = Needs
beginning_of_import sheet.Accounts false = Tells
beginning_of_import sheet.Runs false = Tells
beginning_of_import sheet.Totals false = Needs
beginning_of_import sheet.Payments false = Needs

-- a question: three keep their answer over a new file
abbrev pub beginning_of_question : Question → Beginning
beginning_of_question (question.Status name day) = Tells
beginning_of_question (question.DueList name quarter as_of) = Tells
beginning_of_question (question.ScheduleB name quarter) = Tells
beginning_of_question other = Needs

-- a request: a desk begins by two, and six keep their answer over a new file
abbrev pub beginning_of_request : Request → Beginning
beginning_of_request (request.Enter (entry.Calendar year days)) = Makes
beginning_of_request (request.Enter (entry.Account name account)) = Makes
beginning_of_request (request.Enter (entry.Total name (Quarter quarter) cents)) = Tells
beginning_of_request (request.Enter (entry.Total name (Year year) cents)) = Needs
beginning_of_request (request.Enter (entry.Holiday day)) = Needs
beginning_of_request (request.Enter (entry.Year name year)) = Tells
beginning_of_request (request.Post name number run) = Tells
beginning_of_request (request.Void name number) = Tells
beginning_of_request (request.Pay name number payment) = Tells
beginning_of_request (request.VoidPay name number) = Tells
beginning_of_request (request.Correct number correction) = Needs
beginning_of_request (request.Question asked) = beginning_of_question asked

-- a job; a trial of an import makes no file, nor do the years of all accounts, of which a new desk
-- has none, nor what is due, nor does a journal, nor a check
abbrev pub beginning_of : Job → Beginning
beginning_of (job.Import kind file is_trial) = beginning_of_import kind is_trial
beginning_of (job.Ask format asked) = beginning_of_request asked
beginning_of (job.AskNext asked) = beginning_of_request asked
beginning_of (job.OpenYears year) = Needs
beginning_of (job.Settle asked) = Needs
beginning_of (job.Journal account) = Needs
beginning_of job.Check = Needs

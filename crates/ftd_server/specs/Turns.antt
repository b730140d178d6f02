-- How a server sees whether its desk still answers.
use Rattle.std.specs.Prelude.{◌≡◌, [], Bool, false, true, not, Ok, Err}
use Rattle.sqlite.specs.Store as store
use Rattle.ftd_days.specs.Calendar.{month_start}
use Rattle.ftd_machine.specs.Checks.{Answer}
use Rattle.ftd_machine.specs.declared.replies.Refusal.TheVariants.{Store}
use Rattle.ftd_machine.specs.declared.requests.Request.{Request}
use Rattle.ftd_machine.specs.declared.requests.Question.TheVariants.{Status}
use Rattle.ftd_machine.specs.declared.requests.Request.TheVariants.{Question}
use Rattle.ftd_desk.specs.declared.desk.Desk.{Desk}
use Rattle.ftd_server.specs.Tables.{handles}

-- the question by which a server sees whether its desk still answers: the schedule of no account
abbrev pub question : Request
question = Question (Status [] (month_start 0))

-- its store failed
abbrev pub is_lost : Answer → Bool
is_lost (Ok reply) = false
is_lost (Err Store) = true
is_lost (Err refusal) = false

-- the desk is asked the question, and answers it unless its store failed
abbrev pub asks : {S : Type 0} → store.Ghosts S → Desk S → Bool → Desk S → Type 0
asks g before answers after =
    (answer : Answer) × handles g before question answer after × (answers ≡ not (is_lost answer))

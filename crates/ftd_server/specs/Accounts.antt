-- The response to who asks for the page of an account.
use Rattle.std.specs.Prelude.{◌≡◌, ◌-◌, ◌++◌, ◌∷◌, [], ℕ, Bool, false, true, List, Option, None}
use Rattle.std.specs.Prelude.{Err, Ok, Result, Some, Vec, if◌then◌else◌}
use Rattle.std.specs.List.{list_any}
use Rattle.sqlite.specs.Store as store
use Rattle.ftd_days.specs.Calendar.{quarter_of}
use Rattle.ftd_machine.specs.Checks.{Answer}
use Rattle.ftd_machine.specs.declared.replies.Reply.TheVariants as reply
use Rattle.ftd_machine.specs.declared.requests.KeptList.TheVariants as kept
use Rattle.ftd_machine.specs.declared.requests.Question.TheVariants as question
use Rattle.ftd_machine.specs.declared.requests.Request.{Request}
use Rattle.ftd_machine.specs.declared.requests.Request.TheVariants as request
use Rattle.ftd_desk.specs.Desks.{IsStopped, held}
use Rattle.ftd_desk.specs.Words.{HandlesAll}
use Rattle.ftd_desk.specs.declared.desk.Desk.{Desk}
use Rattle.ftd_http.specs.declared.status.Status.TheVariants as status
use Rattle.ftd_site.specs.AccountPages.{account_page}
use Rattle.ftd_verbs.specs.declared.formats.AnswerFormat.TheVariants.{Page}
use Rattle.ftd_server.specs.Replying.{refused_as, server_frame}
use Rattle.ftd_connections.specs.Responses.{Said, bare, formatted}

-- ---- what the page asks of the desk

abbrev pub schedule_of : List ℕ → ℕ → Request
schedule_of account day = request.Question (question.Status account day)

abbrev pub due_of : List ℕ → ℕ → ℕ → Request
due_of account quarter as_of = request.Question (question.DueList account quarter as_of)

abbrev pub schedule_b_of : List ℕ → ℕ → Request
schedule_b_of account quarter = request.Question (question.ScheduleB account quarter)

abbrev pub years_of : List ℕ → Request
years_of account = request.Question (question.Kept (kept.Years account))

-- of a day: the deposit schedule, what is due for the quarter of the day and for the one before, as
-- of the day, and the liability of the quarter by day, which an account that files Form 943 has not
abbrev pub day_questions : List ℕ → ℕ → List Request
day_questions account day =
    schedule_of account day ∷ due_of account (quarter_of day) day
    ∷ due_of account (quarter_of day - 1) day ∷ schedule_b_of account (quarter_of day) ∷ []

-- what it asks of the day of today, if it is known, and the open years
abbrev pub page_questions : Option ℕ → List ℕ → List Request
page_questions None account = years_of account ∷ []
page_questions (Some today) account = day_questions account today ++ years_of account ∷ []

-- ---- the response to the answers

abbrev pub is_told : Answer → Bool
is_told (Ok (reply.Told facts)) = true
is_told other = false

-- a page with a section for each answer that tells something
abbrev pub page_of_account : Option ℕ → List ℕ → List Answer → Said
page_of_account today account answers =
    formatted Page (account_page (server_frame today) account answers)

-- where none does, the response is a page that tells the first refusal
abbrev pub nothing_told : Option ℕ → List ℕ → List Answer → Said
nothing_told today account (Err refusal ∷ answers) = refused_as today Page account refusal
nothing_told today account other = bare status.InternalServerError

abbrev pub account_said : Option ℕ → List ℕ → List Answer → Said
account_said today account answers =
    if list_any is_told answers then page_of_account today account answers
    else nothing_told today account answers

-- the response to what was answered, where there was memory to ask
abbrev pub said_to : {A E : Type 0} → Option ℕ → List ℕ → Result (Vec Answer A) E → Said
said_to today account (Ok answers) = account_said today account answers.items
said_to today account (Err e) = bare status.InternalServerError

-- the questions were asked of the desk, one after the other, and this is the response to its
-- answers; or there was no memory to ask them, and the desk is as it was
pub data TellsAccount {S : Type 0} (g : store.Ghosts S) (today : Option ℕ) (old new : Desk S)
    (account : List ℕ) (said : Said) : Type 0 where
  asked : (answers : List Answer)
      → HandlesAll (IsStopped new) (held g old) (held g new) (page_questions today account) answers
      → said ≡ account_said today account answers → TellsAccount g today old new account said
  unasked : new ≡ old → said ≡ bare status.InternalServerError
      → TellsAccount g today old new account said

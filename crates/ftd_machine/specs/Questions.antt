-- The questions: the checks of each, and what it is answered.
use Rattle.std.specs.Prelude.{◌≡◌, ◌<◌, ℕ, List, Option, Some, None, ⊤}
use Rattle.std.specs.List.{sum_by}
use Rattle.ftd_rules.specs.declared.TheConstants.{AMOUNTS_END}
use Rattle.ftd_days.specs.Calendar.{year_of, quarter_year}
use Rattle.ftd_rules.specs.Liability.{cents_of}
use Rattle.ftd_rules.specs.Verdicts.{amount_of}
use Rattle.ftd_machine.specs.State.{State, entries_of, holidays, is_open}
use Rattle.ftd_machine.specs.Checks.{Answer}
use Rattle.ftd_machine.specs.Requests.{status_checks, due_list_checks, schedule_b_checks}
use Rattle.ftd_machine.specs.Requests.{agenda_checks, owed_checks, unapplied_checks}
use Rattle.ftd_machine.specs.Asking.{IsStatus, IsDueList, IsScheduleB}
use Rattle.ftd_machine.specs.Agenda.{IsDueBetween, IsLeftBy, IsAgenda}
use Rattle.ftd_machine.specs.Explaining.{IsExplanation}
use Rattle.ftd_machine.specs.Told.{agenda_answer, owed_answer}
use Rattle.ftd_machine.specs.Unapplied.{IsUnapplied}
use Rattle.ftd_machine.specs.Kept.{kept_checks, TellsKept, account_kept}
use Rattle.ftd_machine.specs.declared.facts.Facts.{Facts}
use Rattle.ftd_machine.specs.declared.facts.Facts.TheVariants as facts
use Rattle.ftd_machine.specs.declared.requests.KeptList.{KeptList}
use Rattle.ftd_machine.specs.declared.requests.Question.{Question}
use Rattle.ftd_machine.specs.declared.requests.Question.TheVariants.{Status, Explain, DueList}
use Rattle.ftd_machine.specs.declared.requests.Question.TheVariants.{ScheduleB, Agenda, Owed, Kept}
use Rattle.ftd_machine.specs.declared.requests.Question.TheVariants.{Unapplied}
use Rattle.ftd_machine.specs.declared.requests.Request.{Request}
use Rattle.ftd_machine.specs.declared.requests.Request.TheVariants as request

-- the checks of a question, in their order
abbrev pub question_checks : State → Question → List (Option Answer)
question_checks s (Status name day) =
    let own = entries_of s name in
    status_checks name day own.account (is_open own (year_of day))
question_checks s (Explain name day) =
    let own = entries_of s name in
    status_checks name day own.account (is_open own (year_of day))
question_checks s (DueList name quarter as_of) =
    let own = entries_of s name in
    due_list_checks name quarter as_of own.account (is_open own (quarter_year quarter))
question_checks s (ScheduleB name quarter) =
    let own = entries_of s name in
    schedule_b_checks name quarter own.account (is_open own (quarter_year quarter))
question_checks s (Agenda from to as_of) = agenda_checks from to as_of
question_checks s (Owed until as_of) = owed_checks until as_of
question_checks s (Unapplied until) = unapplied_checks until
question_checks s (Kept kept) = kept_checks s kept

-- where they pass, this is the answer: the deposit schedule of a day, why the obligation that holds
-- it is so, the due list of a quarter, its liability by day, what is due between two days over all
-- accounts, what of it is not paid, which money counts for nothing, or what is kept
abbrev pub Tells : State → Question → Answer → Type 0
Tells s (Status name day) answer = IsStatus (entries_of s name) day answer
Tells s (Explain name day) answer = IsExplanation (holidays s) (entries_of s name) name day answer
Tells s (DueList name quarter as_of) answer =
    IsDueList (holidays s) (entries_of s name) name quarter as_of answer
Tells s (ScheduleB name quarter) answer = IsScheduleB (entries_of s name) name quarter answer
Tells s (Agenda from to as_of) answer =
    IsAgenda s (IsDueBetween from to) as_of (agenda_answer from to as_of) answer
Tells s (Owed until as_of) answer =
    IsAgenda s (IsLeftBy until) as_of (owed_answer until as_of) answer
Tells s (Unapplied until) answer = IsUnapplied s until answer
Tells s (Kept kept) answer = TellsKept s kept answer

-- the amounts of a list of one account that is told are together below 6,000,000,000,000,000 cents;
-- what is due over all accounts has no such limit
abbrev pub AreBounded : Facts → Type 0
AreBounded (facts.Due list) = sum_by amount_of list.rows < AMOUNTS_END
AreBounded (facts.Days list) = sum_by cents_of list.sums < AMOUNTS_END
AreBounded other = ⊤

-- the account that a question names; what is due over all accounts names none
abbrev pub account_asked : Question → Option (List ℕ)
account_asked (Status name day) = Some name
account_asked (Explain name day) = Some name
account_asked (DueList name quarter as_of) = Some name
account_asked (ScheduleB name quarter) = Some name
account_asked (Agenda from to as_of) = None
account_asked (Owed until as_of) = None
account_asked (Unapplied until) = None
account_asked (Kept kept) = account_kept kept

-- the question names the account
abbrev pub AsksOf : Question → List ℕ → Type 0
AsksOf question account = account_asked question ≡ Some account

-- the account and the quarter whose due list is asked for, if one is
abbrev pub due_list_of : Question → Option (List ℕ × ℕ)
due_list_of (DueList name quarter as_of) = Some (name, quarter)
due_list_of other = None

-- the request that asks what is kept
abbrev pub kept_asked : KeptList → Request
kept_asked kept = request.Question (Kept kept)

-- the question that a request is, if it is one
abbrev pub question_of : Request → Option Question
question_of (request.Question question) = Some question
question_of other = None

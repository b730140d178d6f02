-- What each question's checks and answers have in common, one clause a question.
use Rattle.std.proofs.Common.{◌≡◌, sym, ap, subst, [], false}
use Rattle.ftd_machine.specs.State.{State}
use Rattle.ftd_machine.specs.Checks.{Answer}
use Rattle.ftd_machine.specs.Laws.{is_change}
use Rattle.ftd_machine.specs.Questions.{question_checks, Tells}
use Rattle.ftd_machine.specs.Sound.{IsSound}
use Rattle.ftd_machine.specs.declared.requests.Question.{Question}
use Rattle.ftd_machine.specs.declared.requests.Question.TheVariants.{Status, Explain, DueList}
use Rattle.ftd_machine.specs.declared.requests.Question.TheVariants.{ScheduleB, Agenda, Owed, Kept}
use Rattle.ftd_machine.specs.declared.requests.Question.TheVariants.{Unapplied}
use Rattle.ftd_machine.proofs.Heads.{Refuses, refuses_none, refuses_needs, refuses_finds}
use Rattle.ftd_machine.proofs.Heads.{Quiet, Firm, quiet_refusal, firm_refusal}
use Rattle.ftd_machine.proofs.Brief.{AnswersBounded, AreBrief, brief_refusal}
use Rattle.ftd_machine.proofs.KeptChecks.{kept_refuses, kept_no_change, kept_bounded}
use Rattle.ftd_machine.proofs.ListsSmall.{due_list_small, days_small}

-- the checks of a question refuse, or let it pass
pub question_refuses : (s : State) (question : Question) → Refuses (question_checks s question)
question_refuses s (Status name day) =
    refuses_needs _ _ _ (refuses_needs _ _ _ (refuses_finds _ _ _
    (refuses_needs _ _ [] refuses_none)))
question_refuses s (Explain name day) =
    refuses_needs _ _ _ (refuses_needs _ _ _ (refuses_finds _ _ _
    (refuses_needs _ _ [] refuses_none)))
question_refuses s (DueList name quarter as_of) =
    refuses_needs _ _ _
    (refuses_needs _ _ _ (refuses_needs _ _ _ (refuses_finds _ _ _
    (refuses_needs _ _ [] refuses_none))))
question_refuses s (ScheduleB name quarter) =
    refuses_needs _ _ _
    (refuses_needs _ _ _ (refuses_finds _ _ _ (refuses_needs _ _ _
    (refuses_needs _ _ [] refuses_none))))
question_refuses s (Agenda from to as_of) = refuses_needs _ _ _ (refuses_needs _ _ [] refuses_none)
question_refuses s (Owed until as_of) = refuses_needs _ _ _ (refuses_needs _ _ [] refuses_none)
question_refuses s (Unapplied until) = refuses_needs _ _ [] refuses_none
question_refuses s (Kept kept) = kept_refuses s kept

-- so they answer no change
pub question_quiet : (s : State) (question : Question) → Quiet (question_checks s question)
question_quiet s question = quiet_refusal _ (question_refuses s question)

-- nor that something was done before
pub question_firm : (s : State) (question : Question) → Firm (question_checks s question)
question_firm s question = firm_refusal _ (question_refuses s question)

-- nor a list
pub question_brief : (s : State) (question : Question) → AreBrief (question_checks s question)
question_brief s question = brief_refusal _ (question_refuses s question)

-- what is told is no change
pub told_is : (s : State) (question : Question) (answer : Answer) → Tells s question answer
    → is_change answer ≡ false
told_is s (Status name day) answer told = ap is_change told.told
told_is s (Explain name day) answer told = ap is_change told.told
told_is s (DueList name quarter as_of) answer told = ap is_change told.told
told_is s (ScheduleB name quarter) answer told = ap is_change told.told
told_is s (Agenda from to as_of) answer told = ap is_change told.told
told_is s (Owed until as_of) answer told = ap is_change told.told
told_is s (Unapplied until) answer told = ap is_change told.told
told_is s (Kept kept) answer told = kept_no_change s kept answer told

-- the amounts of a list that is told are together below the end
pub tells_bounded : (s : State) (question : Question) (answer : Answer) → IsSound s
    → Tells s question answer → AnswersBounded answer
tells_bounded s (Status name day) answer sound told = subst AnswersBounded (sym told.told) tt
tells_bounded s (Explain name day) answer sound told = subst AnswersBounded (sym told.told) tt
tells_bounded s (DueList name quarter as_of) answer sound told =
    subst AnswersBounded (sym told.told) (due_list_small s name sound quarter as_of answer told)
tells_bounded s (ScheduleB name quarter) answer sound told =
    subst AnswersBounded (sym told.told) (days_small s name sound quarter answer told)
tells_bounded s (Agenda from to as_of) answer sound told = subst AnswersBounded (sym told.told) tt
tells_bounded s (Owed until as_of) answer sound told = subst AnswersBounded (sym told.told) tt
tells_bounded s (Unapplied until) answer sound told = subst AnswersBounded (sym told.told) tt
tells_bounded s (Kept kept) answer sound told = kept_bounded s kept answer told

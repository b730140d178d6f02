-- What a sound state is asked for is answered by a list whose amounts are together below the end,
-- or by no list.
use Rattle.std.proofs.Common.{Ok}
use Rattle.ftd_machine.specs.State.{State}
use Rattle.ftd_machine.specs.Checks.{Answer}
use Rattle.ftd_machine.specs.Laws.{IsBounded}
use Rattle.ftd_machine.specs.Step.{Step}
use Rattle.ftd_machine.specs.Sound.{IsSound}
use Rattle.ftd_machine.specs.declared.replies.Reply.{Reply}
use Rattle.ftd_machine.specs.declared.requests.Request.{Request}
use Rattle.ftd_machine.specs.declared.requests.Request.TheVariants.{Enter, Post, Void, Pay, VoidPay}
use Rattle.ftd_machine.specs.declared.requests.Request.TheVariants.{Correct, Question}
use Rattle.ftd_machine.specs.declared.requests.Entry.TheVariants as entry
use Rattle.ftd_machine.specs.declared.requests.Correction.TheVariants as correction
use Rattle.ftd_machine.specs.declared.entries.ReturnPeriod.TheVariants.{Quarter, Year}
use Rattle.ftd_machine.proofs.Questions.{question_brief, tells_bounded}
use Rattle.ftd_machine.proofs.Repeats.{checks_of}
use Rattle.ftd_machine.proofs.Brief.{AnswersBounded, briefs, decided, is_done, opens_next}
use Rattle.ftd_machine.proofs.Brief.{is_posted}

pub answers_bounded : (s : State) (request : Request) (answer : Answer) (next : State) → IsSound s
    → Step s request answer next → AnswersBounded answer
answers_bounded s (Enter (entry.Account name account)) answer next sound step =
    decided s answer next (checks_of s (Enter (entry.Account name account))) _
    (search briefs depth 12) (is_done answer next _) step
answers_bounded s (Enter (entry.Calendar year days)) answer next sound step =
    decided s answer next (checks_of s (Enter (entry.Calendar year days))) _
    (search briefs depth 12) (is_done answer next _) step
answers_bounded s (Enter (entry.Holiday day)) answer next sound step =
    decided s answer next (checks_of s (Enter (entry.Holiday day))) _
    (search briefs depth 12) (is_done answer next _) step
answers_bounded s (Enter (entry.Total name (Quarter quarter) cents)) answer next sound step =
    decided s answer next (checks_of s (Enter (entry.Total name (Quarter quarter) cents))) _
    (search briefs depth 12) (is_done answer next _) step
answers_bounded s (Enter (entry.Total name (Year year) cents)) answer next sound step =
    decided s answer next (checks_of s (Enter (entry.Total name (Year year) cents))) _
    (search briefs depth 12) (is_done answer next _) step
answers_bounded s (Enter (entry.Year name year)) answer next sound step =
    decided s answer next (checks_of s (Enter (entry.Year name year))) _
    (search briefs depth 12) (opens_next s answer next name year) step
answers_bounded s (Post name number run) answer next sound step =
    decided s answer next (checks_of s (Post name number run)) _
    (search briefs depth 12) (λ posted. is_posted _ _ _ _ answer posted.1) step
answers_bounded s (Void name number) answer next sound step =
    decided s answer next (checks_of s (Void name number)) _
    (search briefs depth 12) (λ posted. is_posted _ _ _ _ answer posted.3) step
answers_bounded s (Pay name number payment) answer next sound step =
    decided s answer next (checks_of s (Pay name number payment)) _
    (search briefs depth 12) (is_done answer next _) step
answers_bounded s (VoidPay name number) answer next sound step =
    decided s answer next (checks_of s (VoidPay name number)) _
    (search briefs depth 12) (is_done answer next _) step
answers_bounded s (Correct number (correction.Total name (Quarter quarter) cents)) answer next
    sound step =
    decided s answer next (checks_of s (Correct number (correction.Total name (Quarter quarter)
    cents))) _
    (search briefs depth 12) (λ posted. is_posted _ _ _ _ answer posted.1) step
answers_bounded s (Correct number (correction.Total name (Year year) cents)) answer next sound
    step =
    decided s answer next (checks_of s (Correct number (correction.Total name (Year year) cents))) _
    (search briefs depth 12) (λ posted. is_posted _ _ _ _ answer posted.1) step
answers_bounded s (Correct number (correction.Holiday day is_holiday)) answer next sound step =
    decided s answer next (checks_of s (Correct number (correction.Holiday day is_holiday))) _
    (search briefs depth 12) (is_done answer next _) step
answers_bounded s (Correct number (correction.Account name beginning)) answer next sound step =
    decided s answer next (checks_of s (Correct number (correction.Account name beginning))) _
    (search briefs depth 12) (is_done answer next _) step
answers_bounded s (Question question) answer next sound step =
    decided s answer next (checks_of s (Question question)) _ (question_brief s question)
    (λ told. tells_bounded s question answer sound told.1) step

pub lists_bounded : (s : State) (request : Request) (reply : Reply) (next : State)
    → IsSound s → Step s request (Ok reply) next → IsBounded reply
lists_bounded s request reply next sound step =
    answers_bounded s request (Ok reply) next sound step

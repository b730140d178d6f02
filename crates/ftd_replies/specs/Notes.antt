-- What the desk is asked after a reply, and what is said of its answer below the reply.
use Rattle.std.specs.Prelude.{ℕ, ◌-◌, nat_lt, List, [], ◌∷◌}
use Rattle.std.specs.Prelude.{◌++◌, codes, length, Option, None, Some}
use Rattle.std.specs.Prelude.{if◌then◌else◌}
use Rattle.std.specs.Fmt.{decimal}
use Rattle.std.specs.List.{concat, sum_by}
use Rattle.ftd_days.specs.Text.{cents_text, day_text}
use Rattle.ftd_machine.specs.Questions.{question_of}
use Rattle.ftd_machine.specs.declared.explained.Explanation.{Explanation}
use Rattle.ftd_machine.specs.declared.facts.Facts.{Facts}
use Rattle.ftd_machine.specs.declared.facts.Facts.TheVariants as facts
use Rattle.ftd_machine.specs.declared.kept.KeptPayment.{KeptPayment}
use Rattle.ftd_machine.specs.declared.lists.UnappliedRow.{UnappliedRow}
use Rattle.ftd_machine.specs.declared.replies.Reply.{Reply}
use Rattle.ftd_machine.specs.declared.replies.Reply.TheVariants as reply
use Rattle.ftd_machine.specs.declared.requests.Question.{Question}
use Rattle.ftd_machine.specs.declared.requests.Question.TheVariants as question
use Rattle.ftd_machine.specs.declared.requests.Request.{Request}
use Rattle.ftd_machine.specs.declared.requests.Request.TheVariants as request
use Rattle.ftd_verbs.specs.Asked.{last_asked}
use Rattle.ftd_replies.specs.Commands.{file_text}

-- ---- what is asked

-- after a payment was recorded, what explains the obligation of the day that it is for
abbrev pub asked_when_done : Request → Option Request
asked_when_done (request.Pay account number payment) =
    Some (request.Question (question.Explain account payment.for_day))
asked_when_done other = None

-- after what is due and not paid, which money counts for nothing
abbrev pub asked_when_told : Option Question → Option Request
asked_when_told (Some (question.Owed until as_of)) =
    Some (request.Question (question.Unapplied last_asked))
asked_when_told other = None

abbrev pub asked_after : Request → Reply → Option Request
asked_after asked reply.Done = asked_when_done asked
asked_after asked reply.Already = None
asked_after asked (reply.Posted difference) = None
asked_after asked (reply.Told told) = asked_when_told (question_of asked)

-- ---- what is said

-- the amount of a payment, in cents
abbrev pub kept_cents : KeptPayment → ℕ
kept_cents x = x.payment.cents.0

-- an amount, and what is so of it
abbrev pub amount_so : ℕ → List ℕ → List ℕ
amount_so amount behind = concat (codes ", " ∷ cents_text amount ∷ behind ∷ [])

-- what is left to pay of an amount, or what was paid beyond it
abbrev pub rest_text : ℕ → ℕ → List ℕ
rest_text amount paid =
    if nat_lt paid amount then amount_so (amount - paid) (codes " left to pay\n")
    else if nat_lt amount paid then amount_so (paid - amount) (codes " more than its amount\n")
    else codes ", paid in full\n"

-- the obligation for which a payment counts: its first and last day
abbrev pub counts_text : Explanation → List ℕ
counts_text e =
    concat (codes "note: counts for " ∷ day_text e.obligation.first ∷ codes " to "
    ∷ day_text e.obligation.last ∷ [])

unfoldable pub payment_note : Option Explanation → List ℕ
payment_note None = codes "note: counts for no obligation\n"
payment_note (Some e) =
    counts_text e ++ rest_text e.obligation.cents.0 (sum_by kept_cents e.payments)

-- how many rows of money count for nothing, if there are any
abbrev pub unapplied_hint : List ℕ → List UnappliedRow → List ℕ
unapplied_hint db [] = []
unapplied_hint db (x ∷ rows) =
    concat (codes "hint: money that counts for nothing, listed by ftd unapplied --db "
    ∷ file_text db ∷ codes ": " ∷ decimal (length (x ∷ rows)) ∷ codes "\n" ∷ [])

-- what is said of the answer, for the desk of this file
abbrev pub note_text : List ℕ → Facts → List ℕ
note_text db (facts.Explained explained) = payment_note explained.found
note_text db (facts.Unapplied unapplied) = unapplied_hint db unapplied.rows
note_text db other = []

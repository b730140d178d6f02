-- What is left of the deposits of an account that are due on a day is recorded as paid.
use Rattle.std.specs.Prelude.{◌≡◌, ◌&&◌, ◌++◌, ℕ, Bool, true, false, nat_lt, List, [], ◌∷◌, Ok, Err}
use Rattle.std.specs.Prelude.{codes, if◌then◌else◌, Option, None, Some}
use Rattle.std.specs.List.{concat, filter_map, list_any}
use Rattle.std.specs.Str.{bytes_eq}
use Rattle.sqlite.specs.Store as store
use Rattle.ftd_days.specs.Text.{day_text}
use Rattle.ftd_rules.specs.declared.payment.Payment.{Payment}
use Rattle.ftd_machine.specs.Agenda.{first_day_of, left_of}
use Rattle.ftd_machine.specs.Checks.{Answer}
use Rattle.ftd_machine.specs.Questions.{kept_asked}
use Rattle.ftd_machine.specs.Runs.{IsFault}
use Rattle.ftd_machine.specs.declared.facts.Facts.TheVariants as facts
use Rattle.ftd_machine.specs.declared.lists.AgendaRow.{AgendaRow}
use Rattle.ftd_machine.specs.declared.replies.Refusal.{Refusal}
use Rattle.ftd_machine.specs.declared.replies.Refusal.TheVariants.{Memory}
use Rattle.ftd_machine.specs.declared.replies.Reply.{Reply}
use Rattle.ftd_machine.specs.declared.replies.Reply.TheVariants.{Already, Told}
use Rattle.ftd_machine.specs.declared.requests.KeptList.TheVariants as kept
use Rattle.ftd_machine.specs.declared.requests.Question.TheVariants.{Agenda}
use Rattle.ftd_machine.specs.declared.requests.Request.{Request}
use Rattle.ftd_machine.specs.declared.requests.Request.TheVariants.{Pay, Question}
use Rattle.ftd_verbs.specs.Asked.{last_asked}
use Rattle.ftd_desk.specs.Desks.{held}
use Rattle.ftd_desk.specs.Telling.{StandsAsBefore}
use Rattle.ftd_desk.specs.Words.{Handles}
use Rattle.ftd_desk.specs.declared.desk.Desk.{Desk}
use Rattle.ftd_replies.specs.Putting.{IsPut}
use Rattle.ftd_replies.specs.Replies.{reply_text}
use Rattle.ftd_replies.specs.RequestLines.{request_line}
use Rattle.ftd_replies.specs.declared.hints.HintFacts.TheVariants.{Nothing}
use Rattle.ftd_program.specs.Numbering.{FindsNumber}
use Rattle.ftd_verbs.specs.Formats.{as_text}
use Rattle.ftd_program.specs.Performing.{AsksAfter, PerformsBy, PrintsOut, PrintsRefusal}
use Rattle.ftd_program.specs.declared.performing.JobEnd.{JobEnd}

-- ---- what is asked, and what is left

-- the account's open years: this is refused where there is no such account
abbrev pub years_question : List ℕ → Request
years_question account = kept_asked (kept.Years account)

-- what is due on the day, over all accounts, with each payment that was ever recorded
abbrev pub due_question : ℕ → Request
due_question due = Question (Agenda due due last_asked)

-- the rows that an answer tells
abbrev pub rows_in : Answer → Option (List AgendaRow)
rows_in (Ok (Told (facts.Agenda agenda))) = Some agenda.rows
rows_in other = None

-- the row is one of the account
abbrev pub is_own : List ℕ → AgendaRow → Bool
is_own account x = bytes_eq x.account account

-- what is left of the row's deposit, as a payment that was made on this day; it is for the first day
-- of the deposit period
abbrev pub payment_of : ℕ → AgendaRow → Payment
payment_of paid x =
    record { paid = paid; for_day = first_day_of x; cents = record { 0 = left_of x.row } }

-- that payment, if the row is one of the account, and something is left
abbrev pub payment_if : List ℕ → ℕ → AgendaRow → Option Payment
payment_if account paid x =
    if is_own account x && nat_lt 0 (left_of x.row) then Some (payment_of paid x) else None

-- those of all rows, in their order
abbrev pub payments_left : List ℕ → ℕ → List AgendaRow → List Payment
payments_left account paid rows = filter_map (payment_if account paid) rows

-- ---- the texts

-- no deposit of the account is due on the day
unfoldable pub nothing_text : List ℕ → ℕ → List ℕ
nothing_text account due =
    concat
    (codes "refused NothingDue\nhint: no deposit of " ∷ account ∷ codes " is due on "
    ∷ day_text due ∷ codes "; ftd agenda lists what is due between two days\n" ∷ [])

-- ---- what is done

module _ {O E : Type 0} (e_taken : E → Option (List ℕ)) (e_failed : E → Bool)
    (out : O) (err : E) (p : JobEnd O E) where
  -- no deposit of the account is due on the day, and that is told
  pub record PrintsNothing (account : List ℕ) (due : ℕ) : Type 0 where
    pub status_is : p.status ≡ 1
    pub out_is : p.out ≡ out
    pub line : IsPut (e_taken err) (e_taken p.err) (e_failed p.err) (nothing_text account due)

module _ {S O E : Type 0} (g : store.Ghosts S) (o_taken : O → Option (List ℕ)) (o_failed : O → Bool)
    (e_taken : E → Option (List ℕ)) (e_failed : E → Bool) (db account : List ℕ) (due : ℕ) where
  -- a payment was asked of the desk under the least number above all those of the account's
  -- payments, and its line printed before the answer; or a fault came in place of the number, and
  -- nothing was asked
  pub data PaysOne (out : O) (err : E) (p : JobEnd O E) (old new : Desk S) (payment : Payment)
      : Type 0 where
    numbered : (between : Desk S) (number : ℕ)
        → FindsNumber (held g old) (held g between) (Pay account number payment) number
        → AsksAfter g o_taken o_failed e_taken e_failed out err p between new db
        (Pay account number payment) (request_line (Pay account number payment))
        → PaysOne out err p old new payment
    unnumbered : (refusal : Refusal) → IsFault (Err refusal)
        → StandsAsBefore (held g old) (held g new)
        → PrintsRefusal o_taken o_failed e_taken e_failed out err p db (due_question due) Nothing
        refusal → PaysOne out err p old new payment

  -- so of each of these, one after the other, with status 0
  abbrev pub PaysAll : (out shown : O) → (err told : E) → (old new : Desk S) → List Payment → Type 0
  PaysAll out shown err told old new [] = (shown ≡ out) × (told ≡ err) × (new ≡ old)
  PaysAll out shown err told old new (payment ∷ later) =
      (end : JobEnd O E) × (between : Desk S) × PaysOne out err end old between payment
      × (end.status ≡ 0) × PaysAll end.out shown end.err told between new later

  module _ (out : O) (err : E) (p : JobEnd O E) where
    -- all were paid; or one has another status than 0, and none was asked after it
    pub data PaysEach (old new : Desk S) (payments : List Payment) : Type 0 where
      whole : p.status ≡ 0 → PaysAll out p.out err p.err old new payments
          → PaysEach old new payments
      ended : (before later : List Payment) (last : Payment) (shown : O) (told : E)
          (between : Desk S) → payments ≡ before ++ last ∷ later
          → PaysAll out shown err told old between before
          → PaysOne shown told p between new last → (p.status ≡ 0 → ⊥) → PaysEach old new payments

    -- what is left was paid; where nothing is, that is told
    abbrev pub PaysLeft : Desk S → Desk S → List Payment → Type 0
    PaysLeft old new [] =
        (new ≡ old)
        × PrintsOut o_taken o_failed e_taken e_failed out err p 0 (reply_text as_text Already)
    PaysLeft old new (payment ∷ later) = PaysEach old new (payment ∷ later)

    -- what came of these rows of what is due
    pub data PaysRows (old new : Desk S) (paid : ℕ) (rows : List AgendaRow) : Type 0 where
      nothing : new ≡ old → list_any (is_own account) rows ≡ false
          → PrintsNothing e_taken e_failed out err p account due → PaysRows old new paid rows
      settled : list_any (is_own account) rows ≡ true
          → PaysLeft old new (payments_left account paid rows) → PaysRows old new paid rows
      unlisted : new ≡ old
          → PrintsRefusal o_taken o_failed e_taken e_failed out err p db (due_question due) Nothing
          Memory → PaysRows old new paid rows

    -- what is due on the day was asked, and what is left of the account's rows was paid; where
    -- nothing is told of what is due, the answer is printed
    pub data SettlesDue (old new : Desk S) (paid : ℕ) : Type 0 where
      unread : (answer : Answer) → rows_in answer ≡ None
          → PerformsBy o_taken o_failed e_taken e_failed out err p (held g old) (held g new) db
          as_text (due_question due) answer → SettlesDue old new paid
      read : (between : Desk S) (answer : Answer) (rows : List AgendaRow)
          → Handles (held g old) (held g between) (due_question due) answer
          → rows_in answer ≡ Some rows → PaysRows between new paid rows → SettlesDue old new paid

    -- the account's years were asked first; where there is no such account, that answer is printed.
    -- There may be no memory for the question.
    pub data Settles (old new : Desk S) (paid : ℕ) : Type 0 where
      unasked : new ≡ old
          → PrintsRefusal o_taken o_failed e_taken e_failed out err p db (due_question due) Nothing
          Memory → Settles old new paid
      unknown : (refusal : Refusal)
          → PerformsBy o_taken o_failed e_taken e_failed out err p (held g old) (held g new) db
          as_text (years_question account) (Err refusal) → Settles old new paid
      known : (years : Reply) (between : Desk S)
          → Handles (held g old) (held g between) (years_question account) (Ok years)
          → SettlesDue between new paid → Settles old new paid

-- Words of the laws on requests.
use Rattle.std.specs.Prelude.{◌≡◌, ◌⊎◌, ℕ, Bool, true, false, List, length, Ok, Err, ⊤}
use Rattle.ftd_machine.specs.State.{State, entries_of}
use Rattle.ftd_machine.specs.Checks.{Answer}
use Rattle.ftd_machine.specs.Questions.{AsksOf, AreBounded}
use Rattle.ftd_machine.specs.Runs.{IsFault}
use Rattle.ftd_machine.specs.declared.replies.Reply.{Reply}
use Rattle.ftd_machine.specs.declared.replies.Reply.TheVariants as reply
use Rattle.ftd_machine.specs.declared.requests.Request.{Request}
use Rattle.ftd_machine.specs.declared.requests.Request.TheVariants.{Enter, Post, Void, Pay, VoidPay}
use Rattle.ftd_machine.specs.declared.requests.Request.TheVariants.{Correct, Question}
use Rattle.ftd_machine.specs.declared.requests.Entry.TheVariants as entry
use Rattle.ftd_machine.specs.declared.requests.Correction.TheVariants as correction

-- the request was done, or its run was posted or voided
abbrev pub is_change : Answer → Bool
is_change (Ok reply.Done) = true
is_change (Ok (reply.Posted difference)) = true
is_change (Ok reply.Already) = false
is_change (Ok (reply.Told facts)) = false
is_change (Err refusal) = false

-- the amounts of a list of one account that is answered are together below 6,000,000,000,000,000
-- cents
abbrev pub IsBounded : Reply → Type 0
IsBounded (reply.Told facts) = AreBounded facts
IsBounded reply.Done = ⊤
IsBounded reply.Already = ⊤
IsBounded (reply.Posted difference) = ⊤

-- the request names the account; a calendar and holidays name none
abbrev pub Names : Request → List ℕ → Type 0
Names (Enter (entry.Account name own)) account = name ≡ account
Names (Enter (entry.Calendar year days)) account = ⊥
Names (Enter (entry.Holiday day)) account = ⊥
Names (Enter (entry.Total name period cents)) account = name ≡ account
Names (Enter (entry.Year name year)) account = name ≡ account
Names (Post name number run) account = name ≡ account
Names (Void name number) account = name ≡ account
Names (Pay name number payment) account = name ≡ account
Names (VoidPay name number) account = name ≡ account
Names (Correct number (correction.Total name period cents)) account = name ≡ account
Names (Correct number (correction.Holiday day is_holiday)) account = ⊥
Names (Correct number (correction.Account name beginning)) account = name ≡ account
Names (Question question) account = AsksOf question account

-- the request asks for a run or a payment more
unfoldable pub adds_entry : Request → Bool
adds_entry (Post name number run) = true
adds_entry (Pay name number payment) = true
adds_entry request = false

-- obligations may differ after the request: it posts or voids a run, or corrects a total
unfoldable pub is_on_run : Request → Bool
is_on_run (Post name number run) = true
is_on_run (Void name number) = true
is_on_run (Correct number (correction.Total name period cents)) = true
is_on_run request = false

-- how many runs the account has, and how many payments, voided ones too
abbrev pub runs_of : List ℕ → State → ℕ
runs_of account s = length (entries_of s account).runs

abbrev pub payments_of : List ℕ → State → ℕ
payments_of account s = length (entries_of s account).payments

-- two states agree on the entries of an account, on the calendars, on the added holidays and on the
-- changed days
pub record AgreeOn (account : List ℕ) (s t : State) : Type 0 where
  pub own : entries_of t account ≡ entries_of s account
  pub calendars : t.calendars ≡ s.calendars
  pub added_days : t.added_days ≡ s.added_days
  pub changed_days : t.changed_days ≡ s.changed_days

-- what was asked for was done before, or there was a fault
abbrev pub IsRepeat : Answer → Type 0
IsRepeat answer = (answer ≡ Ok reply.Already) ⊎ IsFault answer

-- A request under one number, and then under another; and a request under the next number.
use Rattle.std.proofs.Common.{◌≡◌, refl, ℕ, Bool, true, false, true≢false, List, Option, Some}
use Rattle.std.specs.Prelude.{Result, Ok, Err, IfOk, IfErr}
use Rattle.sqlite.specs.State.{HasCleanDisk}
use Rattle.sqlite.specs.Store as store
use Rattle.ftd_machine.specs.Runs.{IsFault}
use Rattle.ftd_machine.specs.State.{State}
use Rattle.ftd_machine.specs.Step.{with_number}
use Rattle.ftd_machine.specs.declared.replies.Refusal.{Refusal}
use Rattle.ftd_machine.specs.declared.requests.Request.{Request}
use Rattle.ftd_machine.specs.declared.requests.Request.TheVariants.{Enter, Post, Void, Pay, VoidPay}
use Rattle.ftd_machine.specs.declared.requests.Request.TheVariants.{Correct, Question}
use Rattle.ftd_desk.specs.Desks.{Held, KeepsIfOpen}
use Rattle.ftd_desk.specs.Telling.{StandsAsBefore}
use Rattle.ftd_desk.specs.declared.desk.Desk.{Desk}
use Rattle.ftd_program.specs.Numbering.{FindsUnused, IsUnused, is_added}
use Rattle.ftd_program.specs.Performing.{AsksCounted, AsksNext, AsksUnused}
use Rattle.ftd_program.specs.declared.performing.JobEnd.{JobEnd}

pub renumbered : (request : Request) (first number : ℕ)
    → with_number (with_number request first) number ≡ with_number request number
renumbered (Enter entered) first number = refl
renumbered (Post name run content) first number = refl
renumbered (Void name run) first number = refl
renumbered (Pay name payment content) first number = refl
renumbered (VoidPay name payment) first number = refl
renumbered (Correct known correction) first number = refl
renumbered (Question question) first number = refl

-- what the desk tells as the next number of a pay run or a payment
pub finds_unused : (old new : Held) (request : Request) (told : Result ℕ Refusal)
    → is_added request ≡ true
    → (HasCleanDisk new.db → (s : State) → KeepsIfOpen old s
    → IfOk told (λ number. IsUnused request s number))
    → IfErr told (λ refusal. IsFault (Err refusal)) → StandsAsBefore old new
    → FindsUnused old new request (Some told)
finds_unused old new request (Ok number) added knows fault stands = (
  added,
  record {
    is = λ clean s keeps. knows clean s (λ is_open. keeps);
    stands = stands;
  },
)
finds_unused old new request (Err refusal) added knows fault stands = (added, fault, stands)

module _ {S O E : Type 0} (g : store.Ghosts S) (o_taken : O → Option (List ℕ)) (o_failed : O → Bool)
    (e_taken : E → Option (List ℕ)) (e_failed : E → Bool) (out : O) (err : E) (p : JobEnd O E)
    (old new : Desk S) (db : List ℕ) where
  -- a pay run or a payment is asked under the number that is not used
  pub next_unused : (request : Request) → is_added request ≡ true
      → AsksUnused g o_taken o_failed e_taken e_failed out err p old new db request
      → AsksNext g o_taken o_failed e_taken e_failed out err p old new db request
  next_unused (Enter entered) added asks = cc added
  next_unused (Post name run content) added asks = asks
  next_unused (Void name run) added asks = cc added
  next_unused (Pay name payment content) added asks = asks
  next_unused (VoidPay name payment) added asks = cc added
  next_unused (Correct known correction) added asks = cc added
  next_unused (Question question) added asks = cc added

  -- any other request is counted by the desk's answer
  pub next_counted : (request : Request) → is_added request ≡ false
      → AsksCounted g o_taken o_failed e_taken e_failed out err p old new db request
      → AsksNext g o_taken o_failed e_taken e_failed out err p old new db request
  next_counted (Enter entered) other asks = asks
  next_counted (Post name run content) other asks = cc other
  next_counted (Void name run) other asks = asks
  next_counted (Pay name payment content) other asks = cc other
  next_counted (VoidPay name payment) other asks = asks
  next_counted (Correct known correction) other asks = asks
  next_counted (Question question) other asks = asks

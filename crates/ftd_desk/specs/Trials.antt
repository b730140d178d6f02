-- What a desk would answer, were it asked.
use Rattle.std.specs.Prelude.{IsTrue, List, Result, MatchResult, All, Err}
use Rattle.sqlite.specs.State.{HasCleanDisk}
use Rattle.ftd_machine.specs.Checks.{Answer}
use Rattle.ftd_machine.specs.Runs.{IsFault}
use Rattle.ftd_machine.specs.State.{State}
use Rattle.ftd_machine.specs.declared.replies.Refusal.{Refusal}
use Rattle.ftd_machine.specs.declared.requests.Request.{Request}
use Rattle.ftd_desk.specs.Desks.{Held, Keeps}
use Rattle.ftd_desk.specs.Telling.{StandsAsBefore}
use Rattle.ftd_desk.specs.Words.{GoesTogether}

-- the machine would answer the requests so, one after the other, or there is a fault; the desk
-- stands for the state as it was
pub record Tries (old new : Held) (requests : List Request) (result : Result (List Answer) Refusal)
    : Type 0 where
  pub stands : StandsAsBefore old new
  pub answered : HasCleanDisk new.db → (s : State) → Keeps old s
      → (end : State) × GoesTogether s requests result end
  -- a connection that was not open answers faults
  pub shut : HasCleanDisk new.db → (IsTrue old.db.is_open → ⊥)
      → MatchResult result (All IsFault) (λ refusal. IsFault (Err refusal))

-- States that agree on an account's entries give the same reply.
use Rattle.std.proofs.Common.{◌≡◌, subst, ℕ, List}
use Rattle.ftd_machine.specs.State.{State}
use Rattle.ftd_machine.specs.Checks.{Answer}
use Rattle.ftd_machine.specs.Step.{Step}
use Rattle.ftd_machine.specs.Sound.{IsSound}
use Rattle.ftd_machine.specs.Laws.{Names, AgreeOn}
use Rattle.ftd_machine.specs.declared.requests.Request.{Request}
use Rattle.ftd_machine.proofs.Own.{follows}
use Rattle.ftd_machine.proofs.Answered.{one_answer}
use Rattle.ftd_machine.proofs.Soundness.{sound_once}

pub answers_once : (s : State) (request : Request) (answer other : Answer) (next after : State)
    → IsSound s
    → Step s request answer next → Step s request other after → (answer ≡ other) × (next ≡ after)
answers_once s request answer other next after sound g h =
    one_answer s request answer other next after (sound_once s sound) g h

pub alike : (s t : State) (request : Request) (answer other : Answer) (next after : State)
    (account : List ℕ) → IsSound t
    → Names request account → AgreeOn account s t → Step s request answer next
    → Step t request other after
    → (answer ≡ other) × AgreeOn account next after
alike s t request answer other next after account sound named agree g h =
    let there = follows s t request answer next account named agree g in
    let same = answers_once t request answer other there.0 after sound there.1 h in
    (same.0, subst (AgreeOn account next) same.1 there.2)

-- Requests one after the other.
use Rattle.std.specs.Prelude.{◌≡◌, ◌⊎◌, List, [], ◌∷◌, Err}
use Rattle.ftd_machine.specs.State.{State, nothing}
use Rattle.ftd_machine.specs.Checks.{Answer}
use Rattle.ftd_machine.specs.Step.{Step}
use Rattle.ftd_machine.specs.declared.replies.Refusal.TheVariants.{Memory, Store}
use Rattle.ftd_machine.specs.declared.requests.Request.{Request}

-- there was no memory, or the store failed
abbrev pub IsFault : Answer → Type 0
IsFault answer = (answer ≡ Err Memory) ⊎ (answer ≡ Err Store)

-- the machine's step, or a fault, which changes nothing
abbrev pub Goes : State → Request → Answer → State → Type 0
Goes s request answer new = Step s request answer new ⊎ (IsFault answer × (new ≡ s))

-- there is one answer for each request, and they go one after the other
abbrev pub IsRun : State → List Request → List Answer → State → Type 0
IsRun s [] [] end = end ≡ s
IsRun s [] (answer ∷ answers) end = ⊥
IsRun s (request ∷ requests) [] end = ⊥
IsRun s (request ∷ requests) (answer ∷ answers) end =
    (next : State) × Goes s request answer next × IsRun next requests answers end

-- a run from nothing ends so
abbrev pub IsReached : State → Type 0
IsReached s = (requests : List Request) × (answers : List Answer) × IsRun nothing requests answers s

-- The checks of a request. Each may answer it; the first that does decides, and nothing changes
-- then.
use Rattle.std.specs.Prelude.{◌≡◌, Bool, false, if◌then◌else◌, List, [], ◌∷◌, Option, None, Some}
use Rattle.std.specs.Prelude.{Result, Ok, Err}
use Rattle.ftd_machine.specs.State.{State}
use Rattle.ftd_machine.specs.declared.replies.Reply.{Reply}
use Rattle.ftd_machine.specs.declared.replies.Reply.TheVariants.{Already}
use Rattle.ftd_machine.specs.declared.replies.Refusal.{Refusal}

-- what a request is answered
abbrev pub Answer : Type 0
Answer = Result Reply Refusal

-- what the first check says that answers
abbrev pub first_of : List (Option Answer) → Option Answer
first_of [] = None
first_of (Some answer ∷ checks) = Some answer
first_of (None ∷ checks) = first_of checks

-- the request is refused unless this holds
abbrev pub needs : Bool → Refusal → Option Answer
needs holds refusal = if holds then None else Some (Err refusal)

-- what was asked for was done before if this holds
abbrev pub done_if : Bool → Option Answer
done_if holds = if holds then Some (Ok Already) else None

-- the request is refused unless there is one
abbrev pub finds : {X : Type 0} → Option X → Refusal → Option Answer
finds None refusal = Some (Err refusal)
finds (Some x) refusal = None

-- there is one, and it meets the test
abbrev pub meets : {X : Type 0} → (X → Bool) → Option X → Bool
meets test None = false
meets test (Some x) = test x

-- where the key is taken, what has it is the same, and what was asked for was done before, or it
-- differs
abbrev pub is_new : {X : Type 0} → Option X → (X → Bool) → Refusal → Option Answer
is_new None same refusal = None
is_new (Some x) same refusal = Some (if same x then Ok Already else Err refusal)

-- the checks decide, or else what stands last
abbrev pub Decides : Option Answer → State → Answer → State → Type 0 → Type 0
Decides (Some given) s answer new Else = (answer ≡ given) × (new ≡ s)
Decides None s answer new Else = Else

-- all checks pass, or else the first of them that answers decides
abbrev pub Passes : {X : Type 0} → List (Option Answer) → Result X Answer → Type 0
Passes checks (Ok found) = first_of checks ≡ None
Passes checks (Err answer) = first_of checks ≡ Some answer

-- the same, and what they find is so
abbrev pub PassesWith
    : {X : Type 0} → List (Option Answer) → (X → Type 0) → Result X Answer → Type 0
PassesWith checks Found (Ok found) = (first_of checks ≡ None) × Found found
PassesWith checks Found (Err answer) = first_of checks ≡ Some answer

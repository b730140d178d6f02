-- The number under which a pay run, a payment or a correction is asked that takes the next one.
use Rattle.std.specs.Prelude.{ℕ, ◌≡◌, ◌+◌, nat_lt, if◌then◌else◌, Bool, true, false, List, [], ◌∷◌}
use Rattle.std.specs.Prelude.{Option, None, Some, Result, Ok, Err, codes}
use Rattle.std.specs.Fmt.{decimal}
use Rattle.std.specs.List.{concat}
use Rattle.sqlite.specs.State.{HasCleanDisk}
use Rattle.ftd_journal.specs.Numbers.{IsNextNumber}
use Rattle.ftd_machine.specs.Checks.{Answer}
use Rattle.ftd_machine.specs.State.{State, entries_of}
use Rattle.ftd_machine.specs.declared.requests.Request.{Request}
use Rattle.ftd_machine.specs.declared.requests.Request.TheVariants.{Pay, Post}
use Rattle.ftd_desk.specs.Desks.{Held, Keeps}
use Rattle.ftd_desk.specs.Telling.{StandsAsBefore}
use Rattle.ftd_machine.specs.Runs.{IsFault}
use Rattle.ftd_machine.specs.declared.replies.Refusal.{Refusal}
use Rattle.ftd_machine.specs.declared.replies.Refusal.TheVariants.{NumberSkipped}
use Rattle.ftd_verbs.specs.Asked.{greatest_number}

-- the next number, where the answer tells how many corrections there are, and there is one more
abbrev pub next_of : Answer → Option ℕ
next_of (Ok reply) = None
next_of (Err (NumberSkipped count)) =
    if nat_lt count greatest_number then Some (count + 1) else None
next_of (Err _) = None

-- the request adds a pay run or a payment
abbrev pub is_added : Request → Bool
is_added (Post account known run) = true
is_added (Pay account known payment) = true
is_added other = false

-- the least number above all that its account has used, for a pay run or a payment
abbrev pub IsUnused : Request → State → ℕ → Type 0
IsUnused (Post account known run) s number = IsNextNumber (entries_of s account).runs number
IsUnused (Pay account known payment) s number = IsNextNumber (entries_of s account).payments number
IsUnused other s number = ⊥

-- it is this number in each state that the desk stood for; the desk stands for it still
pub record FindsNumber (old new : Held) (request : Request) (number : ℕ) : Type 0 where
  pub is : HasCleanDisk new.db → (s : State) → Keeps old s → IsUnused request s number
  pub stands : StandsAsBefore old new

-- a pay run or a payment gets such a number, or a fault comes in place of it; any other request gets
-- none
abbrev pub FindsUnused : Held → Held → Request → Option (Result ℕ Refusal) → Type 0
FindsUnused old new request (Some (Ok number)) =
    (is_added request ≡ true) × FindsNumber old new request number
FindsUnused old new request (Some (Err refusal)) =
    (is_added request ≡ true) × IsFault (Err refusal) × StandsAsBefore old new
FindsUnused old new request None = is_added request ≡ false

-- `number 2`
unfoldable pub number_text : ℕ → List ℕ
number_text number = concat (codes "number " ∷ decimal number ∷ (10 ∷ []) ∷ [])

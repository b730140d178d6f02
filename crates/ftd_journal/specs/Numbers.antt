-- The number that a run or a payment takes where none is given.
use Rattle.std.specs.Prelude.{◌≡◌, ◌⊎◌, ◌+◌, ◌<◌, ℕ, List, Option, None, Some}
use Rattle.ftd_rules.specs.Lists.{Has}
use Rattle.ftd_sql.specs.Standing.{Tables}
use Rattle.ftd_machine.specs.Sound.{IsSound}
use Rattle.ftd_machine.specs.State.{State, Entry, entries_of}
use Rattle.ftd_entries.specs.Standing.{StandsFor}

-- the least number above all that were used, those of void entries too
pub record IsNextNumber {X : Type 0} (entries : List (Entry X)) (number : ℕ) : Type 0 where
  pub above : (e : Entry X) → Has entries e → e.key < number
  pub least : (number ≡ 1) ⊎ ((e : Entry X) × Has entries e × (e.key + 1 ≡ number))

-- the number after the greatest, if there is one
abbrev pub number_after : Option ℕ → ℕ
number_after None = 1
number_after (Some greatest) = greatest + 1

-- it is so of the account's runs, and of its payments, in each sound state for which the tables
-- stand
abbrev pub KnowsNextRun : List ℕ → ℕ → Tables → Type 0
KnowsNextRun name number t =
    (s : State) → StandsFor t s → IsSound s → IsNextNumber (entries_of s name).runs number

abbrev pub KnowsNextPayment : List ℕ → ℕ → Tables → Type 0
KnowsNextPayment name number t =
    (s : State) → StandsFor t s → IsSound s → IsNextNumber (entries_of s name).payments number

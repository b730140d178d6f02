-- The counts that a desk keeps from request to request.
use Rattle.std.specs.Prelude.{◌≡◌, ℕ, List, Option, Some, Result, Ok, ◌⊎◌}
use Rattle.sqlite.specs.Store as store
use Rattle.sqlite.specs.State as database
use Rattle.ftd_store.specs.declared.faults.StoreFault.{StoreFault}
use Rattle.ftd_sql.specs.Standing.{Tables}
use Rattle.ftd_store.specs.declared.tx.Tx.{Tx}
use Rattle.ftd_store.specs.Frame.{Reads}
use Rattle.ftd_machine.specs.State.{State}
use Rattle.ftd_machine.specs.Step.{Step}
use Rattle.ftd_machine.specs.Sound.{IsSound}
use Rattle.ftd_machine.specs.Laws.{runs_of, payments_of}
use Rattle.ftd_machine.specs.declared.requests.Request.{Request}
use Rattle.ftd_entries.specs.Standing.{StandsFor}
use Rattle.ftd_entries.specs.Words.{IsKept}
use Rattle.ftd_desk.specs.Kept.{EachIs, kept_of}
use Rattle.ftd_desk.specs.declared.counts.Counts.{Counts}
use Rattle.ftd_desk.specs.declared.kept.Kept.{Kept}
use Rattle.ftd_desk.specs.declared.requests.Served.{Served}

-- what is kept of an account, if anything is, is how many it has
abbrev pub AreRight : (List ℕ → State → ℕ) → Kept ℕ → State → Type 0
AreRight count_of numbers s =
    EachIs (kept_of numbers) (λ account number. count_of account s ≡ number)

-- the counts that are kept are those of the state
pub record AreCounted (counts : Counts) (s : State) : Type 0 where
  pub runs : AreRight runs_of counts.runs s
  pub payments : AreRight payments_of counts.payments s

-- a number that is kept, with which nothing is touched, or one that was counted in the tables
abbrev pub Knows : {S : Type 0} → store.Ghosts S → Tx S → Tx S → Result ℕ StoreFault → Option ℕ
    → (ℕ → Tables → Type 0) → Type 0
Knows g old new result known IsCount =
    ((new ≡ old) × (number : ℕ) × (known ≡ Some number) × (result ≡ Ok number))
    ⊎ Reads g old new result IsCount

-- within a transaction over rows that stand for a state, the request is answered as the machine
-- answers it, the rows are those of the machine's next state, and the counts stay right
abbrev pub ServesCounted : Counts → Request → Served → database.State → database.State → Tables
    → Type 0
ServesCounted counts request served before after t =
    (s : State) → StandsFor t s → IsSound s → AreCounted counts s
    → (next : State) × Step s request served.answer next × IsKept after.now next
    × AreCounted served.counts next

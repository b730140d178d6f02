-- Which of an account's obligations begin on some days.
use Rattle.std.specs.Prelude.{◌≡◌, ℕ, List, filter}
use Rattle.ftd_rules.specs.declared.Obligation.{Obligation}
use Rattle.ftd_rules.specs.Obligations.{begins_on}
use Rattle.ftd_sql.specs.Standing.{Tables}
use Rattle.ftd_machine.specs.State.{State}
use Rattle.ftd_entries.specs.Standing.{StandsFor}

-- these are the account's obligations that begin on the days, by first day
abbrev pub KnowsObligations : List ℕ → ℕ → ℕ → List Obligation → Tables → Type 0
KnowsObligations name first last found t =
    (s : State) (stands : StandsFor t s)
    → found ≡ filter (begins_on first last) (stands.settled name).owed

-- Stops, with the start of the count by recursion.
use Rattle.std.specs.Prelude.{ℕ, ◌+◌, ◌≤◌, ◌↔◌, nat_lt, List, [], ◌∷◌, if◌then◌else◌}
use Rattle.ftd_rules.specs.Lists.{Has}
use Rattle.ftd_rules.specs.Stops.{next_day_amount, Rise}

-- the day after the last of the rising stops that lies before t, and `first` if there is none
abbrev pub counted_from : ℕ → List ℕ → ℕ → ℕ
counted_from first [] t = first
counted_from first (s ∷ stops) t = if nat_lt s t then counted_from (s + 1) stops t else first

-- the stops of the deposit period from first to last: its days on which 100,000.00 or more has
-- accumulated since the stop before. The count begins anew after each, and ends with the period.
pub record IsStops (liability : ℕ → ℕ → ℕ) (first last : ℕ) (stops : List ℕ) : Type 0 where
  pub rise : Rise first last stops
  pub exact : (t : ℕ) → first ≤ t → t ≤ last
      → Has stops t ↔ (next_day_amount ≤ liability (counted_from first stops t) t)

-- What quarters count together, by recursion.
use Rattle.std.specs.Prelude.{◌≡◌, ℕ, ◌+◌, List, [], ◌∷◌}
use Rattle.ftd_days.specs.declared.cents.Cents.{Cents}
use Rattle.ftd_rules.specs.Lookback.{Counts}

-- what the quarters count together
abbrev pub CountTogether : List (ℕ × Cents) → ℕ → List ℕ → ℕ → Type 0
CountTogether reported start [] total = total ≡ 0
CountTogether reported start (quarter ∷ quarters) total =
    (amount : Cents) × (rest : ℕ) × Counts reported start quarter amount
    × CountTogether reported start quarters rest × (total ≡ amount.0 + rest)

-- Numbers that count from 1 under each key.
use Rattle.std.specs.Prelude.{◌≡◌, ℕ, ◌+◌, ◌==◌, List, [], length, filter}
use Rattle.ftd_rules.specs.Lists.{Has}
use Rattle.ftd_entries.specs.Standing.{with_earlier}

-- how many of these, each a key and a number, have the key
abbrev pub count_at : ℕ → List (ℕ × ℕ) → ℕ
count_at key rows = length (filter (λ (row : ℕ × ℕ). row.0 == key) rows)

-- each has a key and a number, and its number is one more than there are before it with its key
abbrev pub AreNumbered : List (ℕ × ℕ) → Type 0
AreNumbered rows =
    (p : List (ℕ × ℕ) × (ℕ × ℕ)) → Has (with_earlier [] rows) p → p.1.1 ≡ count_at p.1.0 p.0 + 1

-- Lists in an order.
use Rattle.std.specs.Prelude.{◌<◌, ◌+◌, ℕ, List, length, get_or}

-- each stands so to the next
abbrev pub EachToNext : {X : Type 0} → (X → X → Type 0) → List X → Type 0
EachToNext {X = X} R ys =
    (k : ℕ) (d : X) → k + 1 < length ys → R (get_or ys k d) (get_or ys (k + 1) d)

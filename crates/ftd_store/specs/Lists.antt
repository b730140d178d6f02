-- Rows that are listed in their order.
use Rattle.std.specs.Prelude.{List, [], ◌∷◌, ◌++◌}
use Rattle.std.specs.List.Sorted.{IsPermutation}
use Rattle.ftd_sql.specs.Order.{EachToNext}

-- the lists go pair by pair
abbrev pub Pairs : {X Y : Type 0} → (X → Y → Type 0) → List X → List Y → Type 0
Pairs R [] [] = Unit {0}
Pairs R [] (y ∷ ys) = ⊥
Pairs R (x ∷ xs) [] = ⊥
Pairs R (x ∷ xs) (y ∷ ys) = R x y × Pairs R xs ys

-- these are the values of the rows, each once, in this order
pub record Lists {X Y : Type 0} (Rise : X → X → Type 0) (IsRowOf : X → Y → Type 0) (rows : List X)
    (listed : List Y) : Type 0 where
  pub ordered : List X
  pub same : IsPermutation rows ordered
  pub rise : EachToNext Rise ordered
  pub pairs : Pairs IsRowOf ordered listed

-- these are the values of the first of the rows, each once, in this order
pub record ListsFirst {X Y : Type 0} (Rise : X → X → Type 0) (IsRowOf : X → Y → Type 0)
    (rows : List X) (listed : List Y) : Type 0 where
  pub first : List X
  pub rest : List X
  pub same : IsPermutation rows (first ++ rest)
  pub rise : EachToNext Rise (first ++ rest)
  pub pairs : Pairs IsRowOf first listed

-- What an answer of the database shows.
use Rattle.std.specs.Prelude.{List, [], ◌∷◌, Option, None, Some}
use Rattle.sqlite.specs.Order.{Row}

-- the rows of a key: that of the value that was found, or none
abbrev pub rows_of : {X Y : Type 0} → (Y → X) → Option Y → List X
rows_of row None = []
rows_of row (Some y) = row y ∷ []

-- there is no row, or one that is readable
abbrev pub IsAnswer : (Row → Type 0) → List Row → Type 0
IsAnswer IsReadable [] = Unit {0}
IsAnswer IsReadable (row ∷ []) = IsReadable row
IsAnswer IsReadable (row ∷ more) = ⊥

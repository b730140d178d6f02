-- The values that are given to a statement, beside those that are the cells of a row.
use Rattle.std.specs.Prelude.{ℕ, ℤ, List, [], ◌∷◌}
use Rattle.sqlite.specs.declared.types.Value.TheVariants.{Int, Text}
use Rattle.sqlite.specs.Order.{Row}

-- a name, and a number
abbrev pub name_given : List ℕ → Row
name_given name = Text name ∷ []

abbrev pub number_given : ℤ → Row
number_given number = Int number ∷ []

-- an account with a number or a day, and with two
abbrev pub key_given : List ℕ → ℤ → Row
key_given account number = Text account ∷ Int number ∷ []

abbrev pub pair_given : List ℕ → ℤ → ℤ → Row
pair_given account one other = Text account ∷ Int one ∷ Int other ∷ []

-- two days
abbrev pub days_given : ℤ → ℤ → Row
days_given from to = Int from ∷ Int to ∷ []

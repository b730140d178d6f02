-- A table of SQL as a list of typed rows.
use Rattle.std.specs.Prelude.{◌≡◌, ℤ, Bool, cond, List, ◌∷◌, map}
use Rattle.std.specs.Int.Signed.{◌<ℤ◌}
use Rattle.sqlite.specs.declared.types.Value.TheVariants.{Int}
use Rattle.sqlite.specs.Order.{Row}
use Rattle.sqlite.specs.Tree.{IsAscending}

-- the row as it is stored: its rowid, and then its cells
abbrev pub stored : {X : Type 0} → (X → Row) → ℤ × X → Row
stored cells p = Int p.0 ∷ cells p.1

-- the rowids rise
abbrev pub Rise : {X : Type 0} → List (ℤ × X) → Type 0
Rise kept = IsAscending (λ a b. a.0 <ℤ b.0) kept

-- the rows of a tree are these typed rows, in the order in which they were added
pub record HasCells {X : Type 0} (cells : X → Row) (rows : List Row) (xs : List X) : Type 0 where
  pub kept : List (ℤ × X)
  pub rows_are : rows ≡ map (stored cells) kept
  pub typed : map (λ p. p.1) kept ≡ xs
  pub rise : Rise kept

-- a row that passes the test is changed so, another stays
abbrev pub changed : {X : Type 0} → (X → Bool) → (X → X) → X → X
changed test f x = cond (test x) (f x) x

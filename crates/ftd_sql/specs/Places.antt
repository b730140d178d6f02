-- Where a table of typed rows stands, anywhere among those of the schema, and the rows that it
-- holds.
use Rattle.std.specs.Prelude.{◌≡◌, ◌≢◌, ◌⊎◌, ℕ, ◌^◌, Bool, IsTrue, nat_le, ◌==◌, List, find}
use Rattle.std.specs.Prelude.{slice_get, Some, false}
use Rattle.std.specs.List.{AllByRecursion}
use Rattle.sqlite_schema.specs.declared.schema.Action.TheVariants.{NoAction}
use Rattle.sqlite_schema.specs.declared.schema.Reference.{Reference}
use Rattle.sqlite_schema.specs.Names.{same_name, table_named}
use Rattle.sqlite_schema.specs.Rules.{ParentKey, parent_key}
use Rattle.sqlite.specs.Order.{Row}
use Rattle.sqlite.specs.Effect.{Database}
use Rattle.sqlite.specs.Table.{Table}
use Rattle.sqlite.specs.Schema.{Schema}
use Rattle.ftd_sql.specs.Kept.{HasCells}

-- the table stands at this place, and is the one that its name and its tree find
pub record IsAt (s : Schema) (name : List ℕ) (t : Table) (at : ℕ) : Type 0 where
  pub named : table_named s name ≡ Some at
  pub listed : slice_get s.tables at ≡ Some t
  pub found : find (λ u. u.tree == t.tree) s.tables ≡ Some t
  pub low : nat_le (2 ^ 31) t.tree ≡ false

-- every table that was there is there still, at its place, and has its rows
abbrev pub KeepsTables : Database → Database → Type 0
KeepsTables old new =
    (name : List ℕ) (t : Table) (at : ℕ) → IsAt old.schema name t at
    → IsAt new.schema name t at × (new.trees t.tree ≡ old.trees t.tree)

-- the foreign key does nothing where the row that it names is changed or taken out
abbrev pub HasNoAction : Reference → Type 0
HasNoAction r = (r.on_delete ≡ NoAction) × (r.on_update ≡ NoAction)

-- no foreign key with an action names the table
abbrev pub IsUnnamed : Schema → List ℕ → Type 0
IsUnnamed s name =
    AllByRecursion (λ t. AllByRecursion
    (λ r. HasNoAction r ⊎ (same_name name r.parent ≡ false)) t.references) s.tables

-- the foreign key has no action, or points to another tree
abbrev pub Spares : Schema → ℕ → Reference → Type 0
Spares s tree r =
    HasNoAction r ⊎ ((key : ParentKey) → parent_key s.tables r ≡ Some key → key.0 ≢ tree)

-- no foreign key acts on the tree
abbrev pub IsSpared : Schema → ℕ → Type 0
IsSpared s tree = AllByRecursion (λ t. AllByRecursion (Spares s tree) t.references) s.tables

-- a table of typed rows: its place, its tree, and the rows that it holds; where its rows are ever
-- changed or taken out, no foreign key acts on it
pub record Holds {X : Type 0} (rewritten : Bool) (db : Database) (name : List ℕ) (make : ℕ → Table)
    (cells : X → Row) (xs : List X) : Type 0 where
  pub at : ℕ
  pub tree : ℕ
  pub place : IsAt db.schema name (make tree) at
  pub spared : IsTrue rewritten → IsSpared db.schema tree
  pub rows : HasCells cells (db.trees tree) xs

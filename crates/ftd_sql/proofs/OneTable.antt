-- A write to one of the desk's tables, wherever it stands: the others keep their rows.
use Rattle.std.proofs.Common.{◌≡◌, ◌≢◌, ℕ, List, [], ◌∷◌, ◌++◌, None, sym, subst, ◌∙◌, length}
use Rattle.std.specs.Prelude.{◌/◌, Bool}
use Rattle.std.specs.List.{AllByRecursion}
use Rattle.sqlite.specs.declared.types.Value.TheVariants.{Int}
use Rattle.sqlite.specs.Order.{Row}
use Rattle.sqlite.specs.Table.{Table}
use Rattle.sqlite.specs.Term.{Term}
use Rattle.sqlite.specs.Tree.{Trees, put_row}
use Rattle.sqlite.specs.Edit.{edit_of, edited, next_rowid}
use Rattle.sqlite.specs.Rowids.TheVariants.{Chosen}
use Rattle.sqlite.specs.Effect.{Database, value_rows}
use Rattle.sqlite.specs.Source.TheVariants.{Values}
use Rattle.sqlite.specs.Command.TheVariants.{Insert}
use Rattle.sqlite.specs.State.{State, Writes}
use Rattle.sqlite_schema.specs.declared.schema.Column.{Column}
use Rattle.sqlite_schema.specs.declared.schema.Reference.{Reference}
use Rattle.ftd_sql.specs.Tables.{a_table}
use Rattle.ftd_sql.specs.Kept.{HasCells}
use Rattle.ftd_sql.specs.Places.{IsAt, Holds}
use Rattle.ftd_sql.proofs.KeptWrites.{keeps_more}
use Rattle.ftd_sql.proofs.Steps.{inserted}
use Rattle.ftd_sql.proofs.Frames.{apart, stays}

-- the schema stays, and so do the rows of every tree but this one
pub record WritesOne (old new : Database) (tree : ℕ) : Type 0 where
  pub next : Trees
  pub is : new ≡ record { schema = old.schema; trees = next }
  pub others : AllByRecursion (λ (v : Table). v.tree ≢ tree → next v.tree ≡ old.trees v.tree)
      old.schema.tables

-- a table with these rows in the new trees holds them
pub holds_now : {X : Type 0} {acted : Bool} {tree : ℕ} (old new : Database) (name : List ℕ)
    (columns : List Column) (key : List ℕ) (references : List Reference) (cells : X → Row)
    (xs ys : List X)
    → (h : Holds acted old name (a_table name columns key references) cells xs)
    → (w : WritesOne old new tree) → HasCells cells (w.next h.tree) ys
    → Holds acted new name (a_table name columns key references) cells ys
holds_now {acted = acted} old new name columns key references cells xs ys h w k =
    let P : Database → Type 0 = λ d. Holds acted d name (a_table name columns key references) cells
    ys in
    subst P (sym w.is) (record {
      at = h.at;
      tree = h.tree;
      place = h.place;
      spared = h.spared;
      rows = k;
    })

-- a table that is not the written one keeps its rows
pub still : {X : Type 0} {acted : Bool} (old new : Database) (name other : List ℕ)
    (columns : List Column) (key : List ℕ) (references : List Reference) (cells : X → Row)
    (xs : List X) (written : Table) (i : ℕ)
    → IsAt old.schema other written i → WritesOne old new written.tree
    → (h : Holds acted old name (a_table name columns key references) cells xs)
    → a_table name columns key references h.tree ≢ written
    → Holds acted new name (a_table name columns key references) cells xs
still old new name other columns key references cells xs written i there w h differ =
    let away = apart old.schema name other (a_table name columns key references h.tree) written h.at
    i h.place there differ in
    let same = stays old.schema name (a_table name columns key references h.tree) h.at written.tree
    old.trees w.next h.place w.others away in
    holds_now old new name columns key references cells xs xs h w
    (subst (λ rows. HasCells cells rows xs) (sym same) h.rows)

-- so does any table that is not the written one
pub others_stay : (old new : Database) (other : List ℕ) (written : Table) (i : ℕ)
    → IsAt old.schema other written i → WritesOne old new written.tree
    → (name : List ℕ) (t : Table) (at : ℕ) → IsAt old.schema name t at → t ≢ written
    → IsAt new.schema name t at × (new.trees t.tree ≡ old.trees t.tree)
others_stay old new other written i there w name t at place differ =
    let away = apart old.schema name other t written at i place there differ in
    let same = stays old.schema name t at written.tree old.trees w.next place w.others away in
    subst (λ (d : Database). IsAt d.schema name t at × (d.trees t.tree ≡ old.trees t.tree))
    (sym w.is) (place, same)

-- an INSERT of one row adds it last
pub adds_row : {X : Type 0} {acted : Bool} (old new : State) (name : List ℕ) (columns : List Column)
    (key : List ℕ) (references : List Reference) (cells : X → Row) (xs : List X) (x : X)
    (h : Holds acted old.now name (a_table name columns key references) cells xs) (width : ℕ)
    (terms : List Term) (text : List ℕ) (params : Row) (count : ℕ)
    → edited old.now.trees (edit_of old.now.trees (a_table name columns key references h.tree) []
    Chosen 0 (value_rows params width (length terms / width) terms))
    ≡ put_row (Int (next_rowid (old.now.trees h.tree)) ∷ cells x) (old.now.trees h.tree)
    → Writes old new None (Insert h.at (Values terms width)) text params count
    → (w : WritesOne old.now new.now h.tree) × HasCells cells (w.next h.tree) (xs ++ x ∷ [])
adds_row old new name columns key references cells xs x h width terms text params count written w =
    let made = inserted old new h.at width name columns key references h.tree terms text params
    count h.place.listed w in
    let step = made.2 in (
      record { next = made.0; is = made.1; others = step.tables },
      subst (λ rows. HasCells cells rows (xs ++ x ∷ [])) (sym (step.rows ∙ written))
          (keeps_more cells (old.now.trees h.tree) xs x h.rows),
    )

-- Making the indexes by day, beside the tables: no row changes.
use Rattle.std.proofs.Common.{◌≡◌, ℕ, List, [], Ok, refl}
use Rattle.sqlite.specs.State.{State, Executes}
use Rattle.sqlite_ast.specs.declared.CreateIndex.{CreateIndex as Definition}
use Rattle.sqlite_ast.specs.declared.Statement.TheVariants as written
use Rattle.sqlite_schema.specs.declared.schema.Index.{Index}
use Rattle.sqlite_tied.specs.Compute.{everything}
use Rattle.ftd_sql.specs.Places.{KeepsTables}
use Rattle.ftd_sql.specs.TextKinds.{IsReadAs}
use Rattle.ftd_sql.proofs.Indexing.{DefinesIndex, indexes_any, holds_beside, beside_keeps}
use Rattle.ftd_sql.specs.declared.TableName.{TableName}
use Rattle.ftd_sql.specs.declared.TableName.TheVariants.{Runs, Payments}
use Rattle.ftd_sql.specs.Names.{name_of}
use Rattle.ftd_sql.specs.Rows.{cells_of}
use Rattle.ftd_sql.specs.Layout.{table_of}
use Rattle.ftd_sql.specs.Standing.{Tables, Stands}
use Rattle.ftd_sql.specs.declared.texts.TheConstants.{INDEX_RUNS, INDEX_PAYMENTS}

-- the text is a CREATE INDEX on the table
pub record Indexes (n : TableName) (text : List ℕ) : Type 0 where
  pub definition : Definition
  pub reads : IsReadAs text (written.CreateIndex definition)
  pub named : definition.table ≡ name_of n
  pub defines : (tree : ℕ) → (i : Index) × DefinesIndex definition (table_of n tree) i

indexing : (n : TableName) (text : List ℕ) {definition : Definition}
    → IsReadAs text (written.CreateIndex definition) → definition.table ≡ name_of n
    → ((tree : ℕ) → (i : Index) × DefinesIndex definition (table_of n tree) i) → Indexes n text
indexing n text {definition} reads named defines =
    record { definition = definition; reads = reads; named = named; defines = defines }

pub indexes_runs : Indexes Runs INDEX_RUNS.now
unfolding everything
indexes_runs = indexing Runs INDEX_RUNS.now
    (record { read = _; is = refl; said = refl; untimed = refl; whole = refl }) refl
    (λ tree. (_, record { unreserved = refl; fresh = refl; must = refl; is = refl }))

pub indexes_payments : Indexes Payments INDEX_PAYMENTS.now
unfolding everything
indexes_payments = indexing Payments INDEX_PAYMENTS.now
    (record { read = _; is = refl; said = refl; untimed = refl; whole = refl }) refl
    (λ tree. (_, record { unreserved = refl; fresh = refl; must = refl; is = refl }))

-- the rows are the same beside the index, and every table is there still
pub indexes : (n : TableName) (text : List ℕ) → Indexes n text → (old new : State) (count : ℕ)
    (t : Tables) → Stands old.now t → Executes text [] old new (Ok count) → Stands new.now t
    × KeepsTables old.now new.now
indexes n text a old new count t stands h =
    let l = stands n in
    let made = a.defines l.tree in
    let beside = indexes_any old new text a.definition (table_of n l.tree) l.at made.0 count a.reads
    (rw a.named l.place) made.1 h in (
      (λ m. holds_beside old.now new.now _ _ _ _ (cells_of m) (t m) beside (stands m)),
      beside_keeps old.now new.now beside,
    )

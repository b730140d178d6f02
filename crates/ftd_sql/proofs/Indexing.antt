-- What CREATE INDEX on a table means, and that it changes no row.
use Rattle.std.proofs.Common.{◌≡◌, ℕ, List, [], Option, Some, None, Ok, refl, sym, ap, subst, ◌∙◌}
use Rattle.std.proofs.Common.{Bool, false}
use Rattle.std.specs.Option.{option_or}
use Rattle.sqlite.specs.Schema.{Schema}
use Rattle.sqlite.specs.Table.{Table}
use Rattle.sqlite.specs.Order.{Row}
use Rattle.sqlite.specs.Change.{KeepsRows}
use Rattle.sqlite.specs.Does.{Tally}
use Rattle.sqlite.specs.Effect.{Database}
use Rattle.sqlite.specs.Command.TheVariants.{CreateIndex}
use Rattle.sqlite.specs.Listing.{understood}
use Rattle.sqlite.specs.State.{State, Writes, Executes, ExecutesIn}
use Rattle.sqlite.proofs.Callers.{runs_as}
use Rattle.sqlite_ast.specs.declared.CreateIndex.{CreateIndex as Definition}
use Rattle.sqlite_ast.specs.declared.Statement.TheVariants as written
use Rattle.sqlite_schema.specs.declared.schema.Index.{Index}
use Rattle.sqlite_schema.specs.Names.{table_named, view_named, index_named}
use Rattle.sqlite_resolve.specs.declared.compiled.Compiled.{Compiled}
use Rattle.sqlite_resolve.specs.declared.error.CompileError.TheVariants.{Exists}
use Rattle.sqlite_resolve.specs.Define as define
use Rattle.sqlite_resolve.specs.Compile.{timed, returning, command, create_index, creates}
use Rattle.sqlite_resolve.specs.Compile.{is_reserved}
use Rattle.sqlite_schema.specs.declared.schema.Column.{Column}
use Rattle.sqlite_schema.specs.declared.schema.Reference.{Reference}
use Rattle.ftd_sql.specs.Tables.{a_table}
use Rattle.ftd_sql.specs.Kept.{HasCells}
use Rattle.ftd_sql.specs.Places.{IsAt, IsSpared, Holds, KeepsTables}
use Rattle.ftd_sql.proofs.Frames.{all_at}
use Rattle.ftd_sql.proofs.Steps.{went, same_value}
use Rattle.ftd_sql.specs.TextKinds.{IsReadAs}
use Rattle.ftd_sql.proofs.Meaning.{Means, means, refused}

-- what the text defines on the table
pub record DefinesIndex (d : Definition) (t : Table) (i : Index) : Type 0 where
  pub unreserved : is_reserved d.table ≡ false
  pub fresh : is_reserved d.name ≡ false
  pub must : d.if_missing ≡ false
  pub is : define.index t d ≡ Ok i

-- a CREATE INDEX that is understood makes an index on the table
pub indexes : (s : Schema) (text : List ℕ) (d : Definition) (t : Table) (at : ℕ) (i : Index)
    (c : Compiled) → IsReadAs text (written.CreateIndex d) → IsAt s d.table t at
    → DefinesIndex d t i → understood s text ≡ Ok c → Means s text (CreateIndex at)
unfolding timed returning command create_index creates
indexes s text d t at i c r place has ok = go (index_named s d.name)
    (option_or (table_named s d.name) (view_named s d.name)) refl refl
  where
    go : (y x : Option ℕ) → index_named s d.name ≡ y → option_or (table_named s d.name)
        (view_named s d.name) ≡ x → Means s text (CreateIndex at)
    go y (Some k) is-y is-x = absurd (let e = refused s text (written.CreateIndex d) Exists r refl
        (λ base. refl) (λ base. rw (has.unreserved, place.named, place.listed, has.fresh, is-x)
        refl) refl in cc)
    go (Some k) None is-y is-x =
        absurd (let e = refused s text (written.CreateIndex d) Exists r refl (λ base. refl)
        (λ base. rw (has.unreserved, place.named, place.listed, has.fresh, is-x, is-y, has.must)
        refl) refl in cc)
    go None None is-y is-x = means s text (written.CreateIndex d) (CreateIndex at) r refl
        (λ base. refl) (λ base. rw (
          has.unreserved,
          place.named,
          place.listed,
          has.fresh,
          is-x,
          is-y,
          has.is,
        ) refl)

-- the same tables, and each has the same rows
pub record Beside (old new : Database) : Type 0 where
  pub tables : new.schema.tables ≡ old.schema.tables
  pub rows : KeepsRows old.schema.tables old.trees new.trees

at_beside : (old new : Schema) (name : List ℕ) (t : Table) (at : ℕ) → new.tables ≡ old.tables
    → IsAt old name t at → IsAt new name t at
at_beside old new name t at same place =
    rw same (record {
      named = place.named;
      listed = place.listed;
      found = place.found;
      low = place.low;
    })

spared_beside : (old new : Schema) (tree : ℕ) → new.tables ≡ old.tables → IsSpared old tree
    → IsSpared new tree
spared_beside old new tree same spared = rw same spared

pub holds_beside : {X : Type 0} {acted : Bool} (old new : Database) (name : List ℕ)
    (columns : List Column) (key : List ℕ) (references : List Reference) (cells : X → Row)
    (xs : List X)
    → Beside old new → Holds acted old name (a_table name columns key references) cells xs
    → Holds acted new name (a_table name columns key references) cells xs
holds_beside old new name columns key references cells xs b h = record {
  at = h.at;
  tree = h.tree;
  place = at_beside old.schema new.schema name (a_table name columns key references h.tree) h.at
      b.tables h.place;
  spared = λ acts. spared_beside old.schema new.schema h.tree b.tables (h.spared acts);
  rows = subst (λ rs. HasCells cells rs xs)
      (sym (all_at (λ (v : Table). new.trees v.tree ≡ old.trees v.tree) old.schema.tables h.at
      (a_table name columns key references h.tree) b.rows h.place.listed)) h.rows;
}

pub beside_keeps : (old new : Database) → Beside old new → KeepsTables old new
beside_keeps old new b = λ name t at place. (
  at_beside old.schema new.schema name t at b.tables place,
  all_at (λ (v : Table). new.trees v.tree ≡ old.trees v.tree) old.schema.tables at t b.rows
      place.listed,
)

-- a CREATE INDEX that runs leaves the tables and their rows
pub indexes_any : (old new : State) (text : List ℕ) (d : Definition) (t : Table) (at : ℕ)
    (i : Index) (count : ℕ) → IsReadAs text (written.CreateIndex d)
    → IsAt old.now.schema d.table t at → DefinesIndex d t i → Executes text [] old new (Ok count)
    → Beside old.now new.now
unfolding ExecutesIn
indexes_any old new text d t at i count r place has h =
    let s = old.now.schema in
    let m = indexes s text d t at i h.0 r place has h.1.is in
    let w = subst (λ x. Writes old new None (CreateIndex at) x [] count) m.whole
    (runs_as text [] old new s refl (CreateIndex at) m.is m.plain count h) in
    let all = went (rw place.listed at w.changed) in
    let made = all.1 in
    let now : new.now ≡ all.0 = ap (λ (p : Tally × Database). p.1) (same_value all.2) in
    record {
      tables = ap (λ (x : Database). x.schema.tables) now ∙ ap (λ (x : Schema). x.tables) made.is;
      rows = subst (λ (x : Database). KeepsRows s.tables old.now.trees x.trees) (sym now) made.rows;
    }

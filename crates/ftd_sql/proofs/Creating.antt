-- What CREATE TABLE means in a schema that has other tables.
use Rattle.std.proofs.Common.{◌≡◌, ◌++◌, ◌<◌, subst, ℕ, List, [], ◌∷◌, Option, Some, None, Ok, refl}
use Rattle.std.proofs.Common.{sym, ap, ◌∙◌, Bool, true, false, length}
use Rattle.std.specs.Prelude.{◌&&◌, not, ◌==◌}
use Rattle.std.specs.Option.{option_or}
use Rattle.sqlite.specs.Schema.{Schema}
use Rattle.sqlite.specs.Table.{Table}
use Rattle.sqlite.specs.Command.TheVariants.{CreateTable}
use Rattle.sqlite.specs.Listing.{understood}
use Rattle.sqlite_ast.specs.declared.CreateTable.{CreateTable as Definition}
use Rattle.sqlite_ast.specs.declared.Statement.TheVariants as written
use Rattle.sqlite_schema.specs.Names.{table_named, view_named, index_named}
use Rattle.sqlite_resolve.specs.declared.compiled.Compiled.{Compiled}
use Rattle.sqlite_resolve.specs.declared.error.CompileError.TheVariants.{Exists, Unsupported}
use Rattle.sqlite_resolve.specs.Define as define
use Rattle.sqlite_resolve.specs.Compile.{timed, returning, command, create_table, creates}
use Rattle.sqlite_resolve.specs.Compile.{is_attached, is_reserved, table_defined_by, table_in}
use Rattle.sqlite.specs.Change.{created, next_tree, KeepsRows, is_used}
use Rattle.sqlite.specs.Does.{Tally, lacks_sequence}
use Rattle.sqlite.specs.Effect.{Database}
use Rattle.sqlite.specs.State.{State, Writes, Executes, ExecutesIn}
use Rattle.sqlite.proofs.Callers.{runs_as}
use Rattle.ftd_sql.proofs.Steps.{went, same_value}
use Rattle.std.specs.Prelude.{is_some, ◌||◌}
use Rattle.std.specs.List.{AllByRecursion, AllZip, list_any}
use Rattle.sqlite.specs.Order.{Row}
use Rattle.sqlite_catalog.specs.Listing.{IsTableRow}
use Rattle.ftd_sql.specs.TextKinds.{IsReadAs}
use Rattle.ftd_sql.proofs.Meaning.{Means, means, refused}

-- what the text defines, with no look at a schema
pub record Defines (d : Definition) (t : Table) : Type 0 where
  pub fresh : is_reserved d.name ≡ false
  pub must : d.if_missing ≡ false
  pub is : define.table [] d ≡ Ok t
  pub whole : (length t.computed == length t.stamps.places && not d.resolves) ≡ true

-- a CREATE that is understood makes a table
pub made : (s : Schema) (text : List ℕ) (d : Definition) (t : Table) (c : Compiled)
    → IsReadAs text (written.CreateTable d) → Defines d t → understood s text ≡ Ok c
    → Means s text CreateTable
unfolding timed returning command create_table creates
made s text d t c r has ok = go (is_attached s d.name) (index_named s d.name)
    (option_or (table_named s d.name) (view_named s d.name)) refl refl refl
  where
    go : (a : Bool) (y x : Option ℕ) → is_attached s d.name ≡ a → index_named s d.name ≡ y
        → option_or (table_named s d.name) (view_named s d.name) ≡ x → Means s text CreateTable
    go true y x is-a is-y is-x =
        absurd (let e = refused s text (written.CreateTable d) Unsupported r refl (λ base. refl)
        (λ base. rw is-a refl) refl in cc)
    go false (Some k) x is-a is-y is-x =
        absurd (let e = refused s text (written.CreateTable d) Exists r refl (λ base. refl)
        (λ base. rw (is-a, has.fresh, is-y) refl) refl in cc)
    go false None (Some k) is-a is-y is-x =
        absurd (let e = refused s text (written.CreateTable d) Exists r refl (λ base. refl)
        (λ base. rw (is-a, has.fresh, is-y, is-x, has.must) refl) refl in cc)
    go false None None is-a is-y is-x = means s text (written.CreateTable d) CreateTable r refl
        (λ base. refl) (λ base. rw (is-a, has.fresh, is-y, is-x, has.is, has.whole) refl)

defines : (text : List ℕ) (d : Definition) (t : Table) → IsReadAs text (written.CreateTable d)
    → Defines d t → table_defined_by text ≡ Ok t
unfolding table_defined_by table_in
defines text d t r has = rw (r.is, r.said, r.untimed, has.is) refl

all_low : (rows : List Row) (ts : List Table) → AllZip IsTableRow rows ts
    → AllByRecursion (λ (t : Table). t.tree < 65536) ts
all_low [] [] h = tt
all_low [] (t ∷ ts) h = absurd h
all_low (r ∷ rows) [] h = absurd h
all_low (r ∷ rows) (t ∷ ts) h = (h.0.described.low, all_low rows ts h.1)

pub list_any_more : (ts : List Table) (t : Table) → t.is_counted ≡ false
    → list_any (λ (u : Table). u.is_counted) (ts ++ t ∷ []) ≡ list_any (λ (u : Table). u.is_counted)
    ts
list_any_more [] t h = rw h refl
list_any_more (u ∷ ts) t h = ap (λ b. u.is_counted || b) (list_any_more ts t h)

-- what a CREATE does that runs on any database
pub record Made (old new : Database) (t : Table) : Type 0 where
  pub free : table_named old.schema t.name ≡ None
  pub is : new.schema ≡ created old.schema t
  pub empty : new.trees (next_tree old.schema) ≡ []
  pub others : KeepsRows old.schema.tables old.trees new.trees
  pub low : AllByRecursion (λ (u : Table). u.tree < 65536) new.schema.tables

unused : (s : Schema) (name : List ℕ) → is_used s name ≡ false → table_named s name ≡ None
unused s name h = go (table_named s name) refl h
  where
    go : (o : Option ℕ) → table_named s name ≡ o
        → ((is_some o || is_some (index_named s name)) || is_some (view_named s name)) ≡ false
        → table_named s name ≡ None
    go None is e = is
    go (Some k) is e = absurd cc

-- a CREATE that runs on any database finds its names free, and gives the table the next tree
pub creates_any : (old new : State) (text : List ℕ) (d : Definition) (t : Table) (count : ℕ)
    → IsReadAs text (written.CreateTable d) → Defines d t
    → lacks_sequence (created old.now.schema t) ≡ false → Executes text [] old new (Ok count)
    → Made old.now new.now t
unfolding ExecutesIn
creates_any old new text d t count r has counted h =
    let s = old.now.schema in
    let m = made s text d t h.0 r has h.1.is in
    let w = subst (λ x. Writes old new None CreateTable x [] count) m.whole
    (runs_as text [] old new s refl CreateTable m.is m.plain count h) in
    let all = went w.changed in
    let first = went all.1 in
    let made' = first.1 in
    let both : Ok made'.table ≡ Ok t = sym made'.defined ∙ defines text d t r has in
    let same : made'.table ≡ t = cc in
    let schema : first.0.schema ≡ created s t = made'.is ∙ ap (created s) same in
    let bare : lacks_sequence first.0.schema ≡ false = ap lacks_sequence schema ∙ counted in
    let now : new.now ≡ first.0 = ap (λ (p : Tally × Database). p.1) (same_value all.2)
    ∙ same_value (rw bare at first.2) in
    record {
      free = unused s t.name (subst (λ (u : Table). is_used s u.name ≡ false) same made'.free);
      is = ap (λ (x : Database). x.schema) now ∙ schema;
      empty = ap (λ (x : Database). x.trees (next_tree s)) now ∙ made'.empty;
      others = subst (λ (x : Database). KeepsRows s.tables old.now.trees x.trees)
          (sym now) made'.others;
      low = all_low _ _ w.sound.lists.listed.tables;
    }

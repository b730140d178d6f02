-- What one INSERT, UPDATE or DELETE does to the trees, for any table with no counter, whose rows no
-- foreign key acts on.
use Rattle.std.proofs.Common.{◌≡◌, ◌⊎◌, inl, inr, ℕ, List, [], ◌∷◌, map, slice_get}
use Rattle.std.proofs.Common.{Some, None, Option, Ok, Err, Result, refl, sym, ap}
use Rattle.std.proofs.Common.{subst, ◌∙◌, length, append-nil, ◌≢◌, arith, drop, unwrap_or}
use Rattle.std.specs.Prelude.{◌/◌, ◌==◌}
use Rattle.std.specs.List.{filter_map}
use Rattle.sqlite.specs.Order.{Row}
use Rattle.sqlite.specs.Term.{Term}
use Rattle.sqlite.specs.Table.{Table}
use Rattle.sqlite.specs.Schema.{Schema}
use Rattle.sqlite.specs.Source.TheVariants.{Values}
use Rattle.sqlite.specs.Command.TheVariants.{Insert, Update, Delete}
use Rattle.sqlite.specs.Query.{Query, IsAnswer}
use Rattle.sqlite.specs.Program.{overlay}
use Rattle.sqlite.specs.declared.types.Value.TheVariants.{Null}
use Rattle.sqlite.specs.Cast.{cast_row}
use Rattle.sqlite_rules.specs.Calls.{ids_of}
use Rattle.std.proofs.lemmas.List.{length-map}
use Rattle.std.specs.List.{AllByRecursion}
use Rattle.std.proofs.Math.Bool.{and-false}
use Rattle.sqlite.specs.Edit.{Edit, edit_of, Applies, taken_by, numbered, id_in}
use Rattle.sqlite.specs.Rowids.TheVariants.{Chosen, Given}
use Rattle.sqlite.specs.Tree.{Trees, put_row, rowid, without_rowid}
use Rattle.sqlite.specs.Effect.{Database, value_rows}
use Rattle.sqlite.specs.Rows.{Written}
use Rattle.sqlite.specs.Does.{Tally}
use Rattle.sqlite.specs.State.{State, Writes}
use Rattle.sqlite_schema.specs.declared.schema.Keys.TheVariants.{Enforced}
use Rattle.sqlite_schema.specs.declared.schema.Keys.{Keys}
use Rattle.sqlite_schema.specs.declared.schema.Reference.{Reference}
use Rattle.sqlite_schema.specs.Rules.{ParentKey}
use Rattle.sqlite_rules.specs.declared.action.Deed.{Deed}
use Rattle.sqlite_rules.specs.Action.{Writes as WritesEdit, works, work_by, work_for}
use Rattle.sqlite_schema.specs.declared.schema.Column.{Column}
use Rattle.sqlite.proofs.Callers.{one_step}
use Rattle.ftd_sql.specs.Tables.{a_table}
use Rattle.sqlite_trees.proofs.ListLemmas.{flat_map_none}

pub went : {B E R : Type 0} {b : B} {Stops : E → Type 0}
    → ((stop : E) × Stops stop × (Ok b ≡ Err stop)) ⊎ R → R
went (inl stopped) = absurd (let e = stopped.2 in cc)
went (inr on) = on

pub same_value : {B E : Type 0} {a b : B} → ◌≡◌ {A = Result B E} (Ok a) (Ok b) → a ≡ b
same_value e = cc

-- the database that a statement leaves has the trees that were written last
ends_with : {p q : Tally × Database} {next : Trees} → p ≡ q → q.1.trees ≡ next
    → p.1 ≡ record { schema = q.1.schema; trees = next }
ends_with {q = q} e written = ap (λ (p : Tally × Database). p.1) e
    ∙ ap (λ ts. (let d : Database = record { schema = q.1.schema; trees = ts } in d)) written

-- where no row goes, no foreign key acts
no_moves : (depth tree : ℕ) (child : Table) (ref : Reference) (deed : Option Deed)
    (key : Option ParentKey) → work_by depth tree [] child ref deed key ≡ None
no_moves depth tree child ref None key = refl
no_moves depth tree child ref (Some deed) None = refl
no_moves depth tree child ref (Some deed) (Some key) =
    rw (and-false (key.0 == tree)) refl

none_at : {X Y : Type 0} (f : X → Option Y) → ((x : X) → f x ≡ None) → (xs : List X)
    → filter_map f xs ≡ []
none_at f none [] = refl
none_at f none (x ∷ xs) = rw (none x) (none_at f none xs)

pub no_works : (schema : Schema) (keys : Keys) (depth tree : ℕ) (news : List Row)
    → works schema keys depth tree [] news ≡ []
no_works schema keys depth tree news =
    flat_map_none (λ (child : Table). filter_map (work_for schema keys depth tree [] news child)
    child.references)
    (λ child. none_at (work_for schema keys depth tree [] news child)
    (λ ref. no_moves depth tree child ref _ _) child.references) schema.tables

pub inserted : (old new : State) (at width : ℕ) (name : List ℕ) (columns : List Column)
    (key : List ℕ) (references : List Reference) (tree : ℕ) (terms : List Term) (text : List ℕ)
    (params : Row) (count : ℕ)
    → slice_get old.now.schema.tables at ≡ Some (a_table name columns key references tree)
    → Writes old new None (Insert at (Values terms width)) text params count
    → (next : Trees) × (new.now ≡ record { schema = old.now.schema; trees = next })
    × Applies old.now.schema Enforced old.now.trees
    (edit_of old.now.trees (a_table name columns key references tree) [] Chosen 0
    (value_rows params width (length terms / width) terms)) next
inserted old new at width name columns key references tree terms text params count there w =
    let table = a_table name columns key references tree in
    let db = old.now.trees in
    let done = went (rw there at w.changed) in
    let given = went done.1 in
    let counter = went given.2 in
    let written = went counter.2 in
    let counted = went written.2 in
    let kept : counted.0 ≡ written.0 = same_value counted.1 in
    let next : done.0.trees ≡ written.0 = ap (λ (it : Written). it.trees) (same_value counted.2)
    ∙ kept in
    let rows : given.0 ≡ value_rows params width (length terms / width) terms = given.1.1
    ∙ ap (λ ps. value_rows ps width (length terms / width) terms) (append-nil params) in
    let edit : Edit = edit_of db table [] Chosen 0 given.0 in
    let writes : WritesEdit old.now.schema Enforced db edit (Ok written.0) = written.1 in
    let step = one_step old.now.schema Enforced db written.0 edit
    (no_works old.now.schema Enforced 0 table.tree edit.news) writes in (
      written.0,
      ends_with (same_value (went (went done.2).2).2) next,
      subst (λ rs. Applies old.now.schema Enforced db (edit_of db table [] Chosen 0 rs) written.0)
          rows step,
    )

-- ---- rows that are taken out or changed

numbered_given : (rows sources : List Row) → numbered Given rows sources ≡ sources
numbered_given rows [] = refl
numbered_given rows (r ∷ rs) = ap (λ more. r ∷ more) (numbered_given (put_row r rows) rs)

alone_in : {X : Type 0} (xs : List X) → length xs ≡ 1 → (x : X) × (xs ≡ x ∷ [])
alone_in [] one = absurd (omega arith)
alone_in (x ∷ []) one = (x, refl)
alone_in (x ∷ y ∷ more) one = absurd (omega arith)

none_in : {X : Type 0} (xs : List X) → length xs ≡ 0 → xs ≡ []
none_in [] e = refl
none_in (x ∷ xs) e = absurd (omega arith)

module _ (old new : State) (at : ℕ) (name : List ℕ) (columns : List Column) (key : List ℕ)
    (references : List Reference) (tree : ℕ) (q : Query) (text : List ℕ) (params : Row)
    (there : slice_get old.now.schema.tables at
    ≡ Some (a_table name columns key references tree)) where
  abbrev db : Trees
  db = old.now.trees

  abbrev schema : Schema
  schema = old.now.schema

  abbrev table : Table
  table = a_table name columns key references tree

  -- the edit that takes rows out, and puts others in their places
  abbrev edit : List Row → ℕ → List Row → Edit
  edit rows kind news = edit_of db table (ids_of rows) Given kind news

  pub deleted : (count : ℕ)
      → ((olds : List Row) → works schema Enforced 0 tree olds [] ≡ [])
      → Writes old new None (Delete at (record { lets = []; body = q })) text params count
      → (next : Trees) × (rows : List Row) × IsAnswer q (overlay db []) params rows
      × (new.now ≡ record { schema = schema; trees = next })
      × Applies schema Enforced db (edit rows 0 []) next
  deleted count quiet w =
      let done = went (rw there at w.changed) in
      let found = went done.1 in
      let written = went found.2 in
      let next : done.0.trees ≡ written.0 =
      ap (λ (it : Written). it.trees) (same_value written.2) in
      let step = one_step schema Enforced db written.0 (edit found.0 0 [])
      (quiet (taken_by db (edit found.0 0 []))) written.1 in (
        written.0,
        found.0,
        found.1.answer Null,
        ends_with (same_value (went (went done.2).2).2) next,
        step,
      )

  updates : (count : ℕ) → Writes old new None (Update at (record { lets = []; body = q })) text
      params count
      → (next : Trees) × (rows : List Row) × IsAnswer q (overlay db []) params rows
      × (new.now ≡ record { schema = schema; trees = next })
      × WritesEdit schema Enforced db (edit rows 1 rows) (Ok next)
      × (length rows ≡ count)
  updates count w =
      let done = went (rw there at w.changed) in
      let last = same_value (went (went done.2).2).2 in
      let found = went done.1 in
      let written = went found.2 in
      let is = same_value written.2 in
      let next : done.0.trees ≡ written.0 = ap (λ (it : Written). it.trees) is in (
        written.0,
        found.0,
        found.1.answer Null,
        ends_with last next,
        written.1,
        sym (w.counted ∙ ap (λ (p : Tally × Database). unwrap_or p.0.rows 0) last
            ∙ ap (λ (it : Written). length it.rows) is
            ∙ ap length (numbered_given _ (map (λ (s : Row). cast_row table (drop 1 s)) found.0))
            ∙ length-map found.0 (λ (s : Row). cast_row table (drop 1 s))),
      )

  pub updated_one : ((olds : List Row) (row : Row) → works schema Enforced 0 tree olds (row ∷ [])
      ≡ [])
      → Writes old new None (Update at (record { lets = []; body = q })) text params 1
      → (next : Trees) × (row : Row) × IsAnswer q (overlay db []) params (row ∷ [])
      × (new.now ≡ record { schema = schema; trees = next })
      × (next tree ≡ put_row (cast_row table (drop 1 row))
      (without_rowid (id_in (rowid row)) (db tree)))
      × AllByRecursion (λ t. t.tree ≢ tree → next t.tree ≡ db t.tree) schema.tables
  updated_one quiet w =
      let u = updates 1 w in
      let one = alone_in u.1 u.5 in
      let row = one.0 in
      let news = row ∷ [] in
      let step = one_step schema Enforced db u.0 (edit news 1 news)
      (quiet (taken_by db (edit news 1 news)) (cast_row table (drop 1 row)))
      (subst (λ rs. WritesEdit schema Enforced db (edit rs 1 rs) (Ok u.0)) one.1 u.4) in
      (u.0, row, subst (IsAnswer q (overlay db []) params) one.1 u.2, u.3, step.rows, step.tables)

  -- an UPDATE that finds no row changes none
  pub updated_none : ((olds : List Row) → works schema Enforced 0 tree olds [] ≡ [])
      → Writes old new None (Update at (record { lets = []; body = q })) text params 0
      → (next : Trees) × IsAnswer q (overlay db []) params []
      × (new.now ≡ record { schema = schema; trees = next })
      × (next tree ≡ db tree)
      × AllByRecursion (λ t. t.tree ≢ tree → next t.tree ≡ db t.tree) schema.tables
  updated_none quiet w =
      let u = updates 0 w in
      let bare = none_in u.1 u.5 in
      let step = one_step schema Enforced db u.0 (edit [] 1 []) (quiet (taken_by db (edit [] 1 [])))
      (subst (λ rs. WritesEdit schema Enforced db (edit rs 1 rs) (Ok u.0)) bare u.4) in
      (u.0, subst (IsAnswer q (overlay db []) params) bare u.2, u.3, step.rows, step.tables)

-- What a statement of one of the desk's tables makes of its rows, from what its text computes to.
use Rattle.std.proofs.Common.{◌≡◌, ℕ, zero, suc, ℤ, List, [], ◌∷◌, ◌++◌, ◌/◌, length, map, not}
use Rattle.std.proofs.Common.{Bool, true, Some, Ok, refl, drop}
use Rattle.sqlite_tied.specs.Compute.{everything}
use Rattle.std.specs.Prelude.{filter, IsTrue, slice_range}
use Rattle.sqlite.specs.declared.types.Value.TheVariants.{Int}
use Rattle.sqlite.specs.Cast.{cast_row}
use Rattle.sqlite.specs.Order.{Row}
use Rattle.sqlite.specs.Schema.{Schema}
use Rattle.sqlite.specs.Term.{Term, lit, col, eval_all}
use Rattle.sqlite.specs.Tree.{Trees, put_row, rowid}
use Rattle.sqlite.specs.Edit.{edit_of, edited, next_rowid, id_in}
use Rattle.sqlite.specs.Rowids.TheVariants.{Chosen}
use Rattle.sqlite.specs.Effect.{value_rows}
use Rattle.sqlite.specs.Source.TheVariants.{Values}
use Rattle.sqlite.specs.Command.TheVariants.{Insert}
use Rattle.sqlite.specs.State.{State, Executes}
use Rattle.sqlite.proofs.Callers.{runs_as}
use Rattle.sqlite_ast.specs.declared.Rows.{Rows}
use Rattle.sqlite_ast.specs.declared.Rows.TheVariants as rows
use Rattle.sqlite.specs.declared.types.Value.TheVariants.{Null}
use Rattle.sqlite_schema.specs.declared.schema.Column.{Column}
use Rattle.ftd_sql.proofs.KeptLemmas.{cast_null, cast_int}
use Rattle.ftd_sql.specs.declared.TableName.TheVariants.{Metas, Accounts, ReportedQuarters}
use Rattle.ftd_sql.specs.declared.TableName.TheVariants.{CalendarYears, Holidays, Years, Runs}
use Rattle.ftd_sql.specs.declared.TableName.TheVariants.{Payments, Obligations, Forms}
use Rattle.ftd_sql.specs.declared.TableName.TheVariants.{ReportedYears, AddedHolidays}
use Rattle.ftd_sql.specs.declared.TableName.TheVariants.{CorrectedQuarters, CorrectedYears}
use Rattle.ftd_sql.specs.declared.TableName.TheVariants.{ChangedHolidays, CorrectedAccounts}
use Rattle.ftd_sql.specs.Making.{add_of}
use Rattle.ftd_sql.proofs.KeptLemmas.{cast_int_or_null}
use Rattle.ftd_sql.proofs.Shapes.{Test, joined, filters_of}
use Rattle.sqlite_ast.specs.declared.Conflict.TheVariants as conflict
use Rattle.sqlite_ast.specs.declared.Statement.TheVariants as written
use Rattle.sqlite_draft.specs.declared.join.Step.TheVariants.{Inner}
use Rattle.sqlite_draft.specs.Query.{query_of}
use Rattle.sqlite_resolve.specs.Compile.{new_rows}
use Rattle.sqlite_resolve.specs.Write.{simple, updated, deleted}
use Rattle.ftd_sql.specs.Kept.{stored, changed}
use Rattle.ftd_sql.specs.TextKinds.{IsRowText}
use Rattle.ftd_sql.specs.TextKinds.{IsReadAs}
use Rattle.sqlite_syntax.specs.declared.statement.Parsed.{Parsed}
use Rattle.sqlite_resolve.specs.Compile.{first as read_first}
use Rattle.ftd_sql.proofs.Meaning.{IsAccepted, Means, inserts, deletes}
use Rattle.ftd_sql.proofs.KeptLemmas.{plain_query}
use Rattle.sqlite.specs.Command.TheVariants.{Update}
use Rattle.ftd_sql.proofs.OneRow.{Tests, takes_out, changes_row, changes_none}
use Rattle.ftd_sql.proofs.OneTable.{adds_row}
use Rattle.ftd_sql.proofs.Phrase.{Phrase, Given, say, knows, alone}
use Rattle.ftd_sql.proofs.Selects.{all_known}
use Rattle.ftd_sql.proofs.Updates.{setting, updates}
use Rattle.ftd_sql.specs.declared.TableName.{TableName}
use Rattle.ftd_sql.specs.Names.{name_of}
use Rattle.ftd_sql.specs.Rows.{RowOf, cells_of}
use Rattle.ftd_sql.specs.Layout.{columns_of, table_of, is_rewritten}
use Rattle.ftd_sql.specs.Standing.{Tables, with_rows, Stands, Becomes}
use Rattle.ftd_sql.proofs.OneOfAll.{stands_now}

-- ---- adding

-- the numbers from one on
abbrev numbered : ℕ → ℕ → List ℕ
numbered first zero = []
numbered first (suc more) = first ∷ numbered (suc first) more

abbrev columns_given : TableName → List (List ℕ)
columns_given n = map (λ (c : Column). c.name) (columns_of n)

abbrev values_given : ℕ → Rows
values_given count = rows.Values (map (λ k. say (Given k)) (numbered 1 count) ∷ [])

-- the rowid is left to the engine
abbrev terms_given : ℕ → List Term
terms_given count = lit Null ∷ map (λ k. col 0 k) (numbered 0 count)

-- the values are a new row, all of them but the rowid
abbrev AreNewRows : TableName → Type 0
AreNewRows n = (s : Schema) (tree base : ℕ) → new_rows s (table_of n tree) base (columns_given n)
    (values_given (length (columns_of n))) ≡ Ok (Values (terms_given (length (columns_of n)))
    (suc (length (columns_of n))))

-- and put the cells of a row
abbrev PutCells : TableName → Type 0
PutCells n = (x : RowOf n) (tree : ℕ) (db : Trees)
    → edited db (edit_of db (table_of n tree) [] Chosen 0
    (value_rows (cells_of n x) (suc (length (columns_of n)))
    (length (terms_given (length (columns_of n))) / suc (length (columns_of n)))
    (terms_given (length (columns_of n))))) ≡ put_row (Int (next_rowid (db tree)) ∷ cells_of n x)
    (db tree)

-- the text that adds to the table is an INSERT of all its columns in their order
pub record Adds (n : TableName) : Type 0 where
  pub reads : IsReadAs (add_of n) (written.Insert conflict.Abort (name_of n) (columns_given n)
      (values_given (length (columns_of n))) [] [])
  pub is : AreNewRows n
  pub cells : PutCells n

added : (n : TableName) {read : Parsed} → read_first (add_of n) ≡ Ok read
    → read.statement ≡ written.Insert conflict.Abort (name_of n) (columns_given n)
    (values_given (length (columns_of n))) [] []
    → read.formats ≡ [] → slice_range (add_of n) read.start read.end ≡ add_of n
    → AreNewRows n → PutCells n → Adds n
added n {read} is said untimed whole rows cells = record {
  reads = record { read = read; is = is; said = said; untimed = untimed; whole = whole };
  is = rows;
  cells = cells;
}

pub adds_to : (n : TableName) → Adds n
unfolding everything
adds_to Metas = added Metas refl refl refl refl (λ s tree base. refl)
    (λ x tree db. rw (cast_null, cast_int) refl)
adds_to Accounts = added Accounts refl refl refl refl (λ s tree base. refl)
    (λ x tree db. rw (cast_null, cast_int, cast_int) refl)
adds_to ReportedQuarters = added ReportedQuarters refl refl refl refl (λ s tree base. refl)
    (λ x tree db. rw (cast_null, cast_int, cast_int, cast_int) refl)
adds_to CalendarYears = added CalendarYears refl refl refl refl (λ s tree base. refl)
    (λ x tree db. rw (cast_null, cast_int) refl)
adds_to Holidays = added Holidays refl refl refl refl (λ s tree base. refl)
    (λ x tree db. rw (cast_null, cast_int, cast_int) refl)
adds_to Years = added Years refl refl refl refl (λ s tree base. refl)
    (λ x tree db. rw (cast_null, cast_int, cast_int, cast_int, cast_int_or_null x.turn) refl)
adds_to Runs = added Runs refl refl refl refl (λ s tree base. refl)
    (λ x tree db. rw (cast_null, cast_int, cast_int, cast_int, cast_int, cast_int, cast_int) refl)
adds_to Payments = added Payments refl refl refl refl (λ s tree base. refl)
    (λ x tree db. rw (cast_null, cast_int, cast_int, cast_int, cast_int, cast_int) refl)
adds_to Obligations = added Obligations refl refl refl refl (λ s tree base. refl)
    (λ x tree db. rw (cast_null, cast_int, cast_int, cast_int, cast_int, cast_int) refl)
adds_to Forms = added Forms refl refl refl refl (λ s tree base. refl)
    (λ x tree db. rw (cast_null, cast_int) refl)
adds_to ReportedYears = added ReportedYears refl refl refl refl (λ s tree base. refl)
    (λ x tree db. rw (cast_null, cast_int, cast_int) refl)
adds_to AddedHolidays = added AddedHolidays refl refl refl refl (λ s tree base. refl)
    (λ x tree db. rw (cast_null, cast_int, cast_int) refl)
adds_to CorrectedQuarters = added CorrectedQuarters refl refl refl refl (λ s tree base. refl)
    (λ x tree db. rw (cast_null, cast_int, cast_int, cast_int, cast_int) refl)
adds_to CorrectedYears = added CorrectedYears refl refl refl refl (λ s tree base. refl)
    (λ x tree db. rw (cast_null, cast_int, cast_int, cast_int) refl)
adds_to ChangedHolidays = added ChangedHolidays refl refl refl refl (λ s tree base. refl)
    (λ x tree db. rw (cast_null, cast_int, cast_int, cast_int, cast_int) refl)
adds_to CorrectedAccounts = added CorrectedAccounts refl refl refl refl (λ s tree base. refl)
    (λ x tree db. rw (cast_null, cast_int, cast_int, cast_int) refl)

pub add_is_row_text : (n : TableName) → IsRowText (add_of n)
add_is_row_text n = (_, (adds_to n).reads, tt)

-- a row is added to the table
pub adds : (n : TableName) (x : RowOf n) (old new : State) (count : ℕ) (t : Tables)
    → Stands old.now t → Executes (add_of n) (cells_of n x) old new (Ok count)
    → Becomes old.now new.now (with_rows n (t n ++ x ∷ []) t)
adds n x old new count t stands h =
    let s = old.now.schema in
    let l = stands n in
    let a = adds_to n in
    let width = suc (length (columns_of n)) in
    let terms = terms_given (length (columns_of n)) in
    let m = inserts s (add_of n) (name_of n) (table_of n l.tree) l.at (columns_given n)
    (values_given (length (columns_of n))) (Values terms width) l.place refl a.reads
    (a.is s l.tree) in
    let w = runs_as (add_of n) (cells_of n x) old new s refl (Insert l.at (Values terms width)) m.is
    m.plain count h in
    let made = adds_row old new _ _ _ _ (cells_of n) (t n) x l width terms _ (cells_of n x) count
    (a.cells x l.tree old.now.trees) w in
    stands_now n old.now new.now t (t n ++ x ∷ []) stands made.0 made.1

-- ---- changing

-- the text is an UPDATE of the rows that pass the tests; the new row is what `project` computes
pub record Changes (n : TableName) (text : List ℕ) (first : Test) (more : List Test)
    (sets : List (Phrase × List ℕ)) (project : List Term) : Type 0 where
  pub acts : IsTrue (is_rewritten n)
  pub reads : IsReadAs text (written.Update (name_of n) (map setting sets)
      (Some (say (joined first more))) [])
  pub is : (tree : ℕ) → updated (alone (table_of n tree)) 0 (table_of n tree) (map setting sets)
      (Some (say (joined first more))) ≡ Ok
      (simple (Inner tree ∷ []) (filters_of (first ∷ more)) project)
  pub known : (tree : ℕ) → (knows (table_of n tree) (joined first more) ≡ true)
      × (all_known (table_of n tree) sets ≡ true)
  pub accepted : (tree : ℕ) → IsAccepted (table_of n tree)
      (query_of (simple (Inner tree ∷ []) (filters_of (first ∷ more)) project))

module _ (n : TableName) (text : List ℕ) (first : Test) (more : List Test)
    (sets : List (Phrase × List ℕ)) (project : List Term)
    (a : Changes n text first more sets project) where
  pub changing : IsRowText text
  changing = (_, a.reads, tt)

  module _ (params : Row) (test : RowOf n → Bool) (f : RowOf n → RowOf n)
      (tested : Tests (cells_of n) test (filters_of (first ∷ more)) params)
      (recast : (tree : ℕ) (p : ℤ × RowOf n) → cast_row (table_of n tree)
      (drop 1 (eval_all project (params ∷ stored (cells_of n) p ∷ []))) ≡ Int p.0 ∷ cells_of n
      (f p.1))
      (same_id : (p : ℤ × RowOf n)
      → id_in (rowid (eval_all project (params ∷ stored (cells_of n) p ∷ []))) ≡ p.0)
      (old new : State) (t : Tables) (stands : Stands old.now t) where
    means : Means old.now.schema text
        (Update (stands n).at
        (record {
          lets = [];
          body = plain_query (stands n).tree (filters_of (first ∷ more)) project
              [];
        }))
    means =
        let l = stands n in
        updates old.now.schema text (name_of n) (table_of n l.tree) l.at sets (joined first more) _
        l.place a.reads (a.known l.tree).1 (a.known l.tree).0 (a.is l.tree) (a.accepted l.tree)

    -- where one row was changed, it is the only one that passes
    pub changes : Executes text params old new (Ok 1) → Becomes old.now new.now
        (with_rows n (map (changed test f) (t n)) t)
        × ((x : RowOf n) × (filter test (t n) ≡ x ∷ []))
    changes h =
        let l = stands n in
        let w = runs_as text params old new old.now.schema refl _ means.is means.plain 1 h in
        let made = changes_row old new _ _ _ _ (cells_of n) (t n) test f l a.acts
        (filters_of (first ∷ more)) project _ params tested (recast l.tree) same_id w in
        (stands_now n old.now new.now t _ stands made.0 made.1, made.2)

    -- where none was changed, none passes
    pub changes_nothing : Executes text params old new (Ok 0) → Becomes old.now new.now
        (with_rows n (t n) t) × (filter test (t n) ≡ [])
    changes_nothing h =
        let l = stands n in
        let w = runs_as text params old new old.now.schema refl _ means.is means.plain 0 h in
        let made = changes_none old new _ _ _ _ (cells_of n) (t n) test l a.acts
        (filters_of (first ∷ more)) project _ params tested w in
        (stands_now n old.now new.now t _ stands made.0 made.1, made.2)

-- ---- taking out

-- the text is a DELETE of the rows that pass the tests
pub record Removes (n : TableName) (text : List ℕ) (first : Test) (more : List Test) : Type 0 where
  pub acts : IsTrue (is_rewritten n)
  pub reads : IsReadAs text (written.Delete (name_of n) (Some (say (joined first more))) [])
  pub is : (tree : ℕ) → deleted (alone (table_of n tree)) 0 (table_of n tree)
      (Some (say (joined first more))) ≡ Ok (simple (Inner tree ∷ []) (filters_of (first ∷ more))
      (col 1 0 ∷ []))
  pub known : (tree : ℕ) → knows (table_of n tree) (joined first more) ≡ true
  pub accepted : (tree : ℕ) → IsAccepted (table_of n tree)
      (query_of (simple (Inner tree ∷ []) (filters_of (first ∷ more)) (col 1 0 ∷ [])))

module _ (n : TableName) (text : List ℕ) (first : Test) (more : List Test)
    (a : Removes n text first more) where
  pub removing : IsRowText text
  removing = (_, a.reads, tt)

  pub removes : (params : Row) (test : RowOf n → Bool) → Tests (cells_of n) test
      (filters_of (first ∷ more)) params
      → (old new : State) (count : ℕ) (t : Tables) → Stands old.now t → Executes text params old new
      (Ok count)
      → Becomes old.now new.now (with_rows n (filter (λ x. not (test x)) (t n)) t)
  removes params test tested old new count t stands h =
      let s = old.now.schema in
      let l = stands n in
      let m = deletes s text (name_of n) (table_of n l.tree) l.at (joined first more) _ l.place
      a.reads (a.known l.tree) (a.is l.tree) (a.accepted l.tree) in
      let w = runs_as text params old new s refl _ m.is m.plain count h in
      let made = takes_out old new _ _ _ _ (cells_of n) (t n) test l a.acts
      (filters_of (first ∷ more)) _ params count tested w in
      stands_now n old.now new.now t _ stands made.0 made.1

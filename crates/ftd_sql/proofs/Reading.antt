-- What a reading of one of the desk's tables shows of its rows, from what its text computes to.
use Rattle.std.proofs.Common.{◌≡◌, ℕ, ℤ, pos, List, [], ◌∷◌, codes, length, map, Bool, false}
use Rattle.std.proofs.Common.{Option, refl, sym, subst, arith, true}
use Rattle.std.specs.Prelude.{filter, min, ⊤, nat_lt, ◌^◌}
use Rattle.std.specs.Ordering.{is_lt}
use Rattle.std.specs.List.Sorted.{IsPermutation}
use Rattle.std.proofs.lemmas.List.Sorted.{IsPermutation-map}
use Rattle.std.proofs.lemmas.Bool.Decides.{nat_tests}
use Rattle.ftd_sql.proofs.Shapes.{Place, Test, where_of, shown_of, order_of, filters_of}
use Rattle.ftd_sql.proofs.Shapes.{project_of, outs_of, keys_of, draft_of, count_out, count_draft}
use Rattle.ftd_sql.proofs.Shapes.{by_rowid}
use Rattle.sqlite.specs.declared.types.Value.TheVariants.{Null, Int}
use Rattle.sqlite.specs.Order.{Row}
use Rattle.sqlite.specs.Schema.{Schema}
use Rattle.sqlite.specs.Table.{Table}
use Rattle.sqlite.specs.Program.{overlay}
use Rattle.sqlite.specs.Term.{eval_all}
use Rattle.sqlite.specs.Query.{Query, IsAnswer, output, output_cmp}
use Rattle.sqlite.specs.Command.TheVariants.{Select}
use Rattle.sqlite.specs.State.{State, Shown}
use Rattle.sqlite.proofs.Callers.{reads_as}
use Rattle.sqlite_ast.specs.declared.Statement.TheVariants as written
use Rattle.sqlite_ast.specs.declared.Core.{out-Core}
use Rattle.sqlite_ast.specs.declared.Select as ast
use Rattle.sqlite_draft.specs.declared.query.Draft.{Draft}
use Rattle.sqlite_draft.specs.Query.{query_of}
use Rattle.sqlite_resolve.specs.declared.scope.Output.{Output}
use Rattle.ftd_sql.specs.Kept.{stored}
use Rattle.ftd_sql.specs.Order.{EachToNext}
use Rattle.ftd_sql.specs.Places.{IsAt, Holds}
use Rattle.ftd_sql.specs.TextKinds.{IsReadText}
use Rattle.ftd_sql.proofs.Counting.{count_query, counts_rows, greatest_count}
use Rattle.ftd_sql.proofs.InOrder.{shows_in_order, shows_in_row_order}
use Rattle.ftd_sql.proofs.KeptLemmas.{plain_query}
use Rattle.ftd_sql.specs.TextKinds.{IsReadAs}
use Rattle.ftd_sql.proofs.Meaning.{IsAccepted, Means}
use Rattle.ftd_sql.proofs.OneRow.{Tests}
use Rattle.ftd_sql.proofs.Phrase.{Phrase, Rows}
use Rattle.ftd_sql.proofs.Selects.{a_select, core, select_in, core_in, sort, Resolves, selects}
use Rattle.ftd_sql.specs.declared.TableName.{TableName}
use Rattle.ftd_sql.specs.Names.{name_of}
use Rattle.ftd_sql.specs.Rows.{RowOf, cells_of}
use Rattle.ftd_sql.specs.Layout.{table_of}
use Rattle.ftd_sql.specs.Standing.{Tables, Stands}

-- what the parts of a SELECT hold
pub record Opens (name : List ℕ) (columns : List (Phrase × List ℕ)) (test : Option Phrase)
    (order : List (Phrase × Bool)) : Type 0 where
  pub whole : ast.out-Select (a_select name columns test order) ≡ select_in (core name columns test)
      (map sort order)
  pub first : out-Core (core name columns test) ≡ core_in name columns test

-- the text is a SELECT of these columns over the table, under these tests and in this order
pub record Asks (n : TableName) (text : List ℕ) (columns : List Place) (tests : List Test)
    (order : List Place) : Type 0 where
  pub reads : IsReadAs text
      (written.Select (a_select (name_of n) (shown_of columns) (where_of tests) (order_of order)))
  pub opens : Opens (name_of n) (shown_of columns) (where_of tests) (order_of order)
  pub resolves : (tree : ℕ) → nat_lt tree (2 ^ 31) ≡ true → Resolves (table_of n tree) (name_of n)
      (shown_of columns) (where_of tests) (order_of order) (outs_of columns)
      (draft_of columns tests order tree)
  pub accepted : (tree : ℕ) → IsAccepted (table_of n tree)
      (query_of (draft_of columns tests order tree))
  pub is_query : (tree : ℕ) → query_of (draft_of columns tests order tree) ≡ plain_query tree
      (filters_of tests) (project_of columns) (keys_of order)

-- the text speaks of reading alone
pub asking : (n : TableName) (text : List ℕ) (columns : List Place) (tests : List Test)
    (order : List Place) → Asks n text columns tests order → IsReadText text
asking n text columns tests order a = (_, a.reads)

means : (n : TableName) (text : List ℕ) (columns : List (Phrase × List ℕ)) (test : Option Phrase)
    (order : List (Phrase × Bool)) (outs : List Output) (draft : Draft) (query : Query) (s : Schema)
    (at tree : ℕ)
    → IsReadAs text (written.Select (a_select (name_of n) columns test order))
    → Opens (name_of n) columns test order → Resolves (table_of n tree) (name_of n) columns test
    order outs draft → IsAccepted (table_of n tree) (query_of draft) → query_of draft ≡ query
    → IsAt s (name_of n) (table_of n tree) at
    → Means s text (Select (record { lets = []; body = query }) (map (λ (o : Output). o.name) outs))
means n text columns test order outs draft query s at tree reads opens resolves accepted is_query
    place =
    subst (λ q. Means s text (Select (record { lets = []; body = q })
    (map (λ (o : Output). o.name) outs))) is_query
    (selects s text (name_of n) (table_of n tree) at columns test order
    (a_select (name_of n) columns test order) (core (name_of n) columns test) outs draft place reads
    opens.whole opens.first resolves accepted)

-- the tree of a table that stands in the schema is one that is kept in the file
pub is_low : {s : Schema} {name : List ℕ} {t : Table} {at : ℕ} → IsAt s name t at
    → nat_lt t.tree (2 ^ 31) ≡ true
is_low place = let low = place.low in grind (arith, nat_tests)

-- ---- what a reading shows

module _ (n : TableName) (text : List ℕ) (columns : List Place) (tests : List Test)
    (order : List Place) (a : Asks n text columns tests order) where
  module _ (params : Row) (test : RowOf n → Bool) (shown : RowOf n → Row)
      (tested : Tests (cells_of n) test (filters_of tests) params)
      (seen : (p : ℤ × RowOf n) → eval_all (project_of columns)
      (params ∷ stored (cells_of n) p ∷ []) ≡ shown p.1)
      (old new : State) (rows : List Row) (xs : List (RowOf n)) {acted : Bool}
      (l : Holds acted old.now (name_of n) (table_of n) (cells_of n) xs)
      (h : Shown text params old new rows) where
    answered : IsAnswer (plain_query l.tree (filters_of tests) (project_of columns) (keys_of order))
        (overlay old.now.trees []) params rows
    answered =
        let s = old.now.schema in
        let m = means n text _ _ _ _ _ _ s l.at l.tree a.reads a.opens
        (a.resolves l.tree (is_low l.place)) (a.accepted l.tree) (a.is_query l.tree) l.place in
        (reads_as text params old new s refl _ m.is m.plain m.unlisted rows h).answer Null

    -- in an order in which each row follows from the one before
    pub lists : (R : RowOf n → RowOf n → Type 0)
        → ((tree : ℕ) (a b : RowOf n) (i j : ℤ)
        → is_lt (output_cmp (plain_query tree (filters_of tests) (project_of columns)
        (keys_of order))
        (output (plain_query tree (filters_of tests) (project_of columns) (keys_of order))
        (params ∷ stored (cells_of n) (i, b) ∷ []))
        (output (plain_query tree (filters_of tests) (project_of columns) (keys_of order))
        (params ∷ stored (cells_of n) (j, a) ∷ []))) ≡ false → R a b)
        → (ys : List (RowOf n)) × IsPermutation (filter test xs) ys × (rows ≡ map shown ys)
        × EachToNext R ys
    lists R rises =
        shows_in_order old _ _ (cells_of n) shown xs test R l (filters_of tests)
        (project_of columns) (keys_of order) params rows tested seen (rises l.tree) answered

    -- by rowid, in the order in which the rows were added
    pub in_row_order : order ≡ by_rowid → rows ≡ map shown (filter test xs)
    in_row_order is =
        shows_in_row_order old _ _ (cells_of n) shown xs test l (filters_of tests)
        (project_of columns) params rows tested seen
        (subst (λ o. IsAnswer (plain_query l.tree (filters_of tests) (project_of columns)
        (keys_of o)) (overlay old.now.trees []) params rows) is answered)

    -- in whatever order
    pub shows : IsPermutation (map shown (filter test xs)) rows
    shows =
        let found = lists (λ a b. ⊤) (λ tree a b i j h. tt) in
        subst (IsPermutation (map shown (filter test xs))) (sym found.2)
        (IsPermutation-map shown _ found.0 found.1)

-- ---- counting

-- the text counts the rows of the table, under these tests
pub record Counts (n : TableName) (text : List ℕ) (tests : List Test) : Type 0 where
  pub reads : IsReadAs text
      (written.Select (a_select (name_of n) ((Rows, codes "COUNT(*)") ∷ []) (where_of tests) []))
  pub opens : Opens (name_of n) ((Rows, codes "COUNT(*)") ∷ []) (where_of tests) []
  pub resolves : (tree : ℕ) → Resolves (table_of n tree) (name_of n) ((Rows, codes "COUNT(*)") ∷ [])
      (where_of tests) [] (count_out ∷ []) (count_draft tests tree)
  pub accepted : (tree : ℕ) → IsAccepted (table_of n tree) (query_of (count_draft tests tree))
  pub is_query : (tree : ℕ) → query_of (count_draft tests tree) ≡ count_query tree
      (filters_of tests)

pub counting : (n : TableName) (text : List ℕ) (tests : List Test) → Counts n text tests
    → IsReadText text
counting n text tests a = (_, a.reads)

pub counts : (n : TableName) (text : List ℕ) (tests : List Test) → Counts n text tests
    → (params : Row) (test : RowOf n → Bool) → Tests (cells_of n) test (filters_of tests) params
    → (old new : State) (rows : List Row) (t : Tables) → Stands old.now t
    → Shown text params old new rows
    → rows ≡ (Int (pos (min (length (filter test (t n))) greatest_count)) ∷ []) ∷ []
counts n text tests a params test tested old new rows t stands h =
    let s = old.now.schema in
    let l = stands n in
    let m = means n text _ _ _ _ _ _ s l.at l.tree a.reads a.opens (a.resolves l.tree)
    (a.accepted l.tree) (a.is_query l.tree) l.place in
    let read = reads_as text params old new s refl _ m.is m.plain m.unlisted rows h in
    counts_rows old _ _ (cells_of n) (t n) test l (filters_of tests) params rows tested
    (read.answer Null)

-- What a SELECT on one table means, wherever the table stands.
use Rattle.std.proofs.Common.{◌≡◌, ℕ, List, [], ◌∷◌, ◌++◌, map, Option, Some, None, Ok, refl, ap}
use Rattle.std.proofs.Common.{◌∙◌, Bool, true, false, slice_get, length, negsuc}
use Rattle.std.specs.Prelude.{not, is_some, ◌&&◌, ◌||◌, ◌^◌, nat_lt, ◌==◌}
use Rattle.std.proofs.lemmas.Bool.{and_parts}
use Rattle.sqlite.specs.Schema.{Schema}
use Rattle.sqlite.specs.Table.{Table}
use Rattle.sqlite.specs.Command.TheVariants.{Select}
use Rattle.sqlite.specs.declared.types.Value.TheVariants.{Int}
use Rattle.sqlite_sql.specs.Term.{Term, lit, col}
use Rattle.sqlite_value.specs.declared.keys.Key.{Key}
use Rattle.sqlite_value.specs.declared.keys.Collation.TheVariants.{Binary}
use Rattle.sqlite_value.specs.declared.keys.Collation.{Collation}
use Rattle.sqlite_ast.specs.declared.Expr.{Expr}
use Rattle.sqlite_ast.specs.declared.Shown.{Shown}
use Rattle.sqlite_ast.specs.declared.Shown.TheVariants as result
use Rattle.sqlite_ast.specs.declared.Sort.{Sort, roll-Sort}
use Rattle.sqlite_ast.specs.declared.Source.{Source, roll-Source}
use Rattle.sqlite_ast.specs.declared.Core.{Core, roll-Core, out-Core}
use Rattle.sqlite_ast.specs.declared.Select as ast
use Rattle.sqlite_ast.specs.declared.Arm.{Arm}
use Rattle.sqlite_ast.specs.declared.Expr.TheOpen.{Core-F, Select-F}
use Rattle.sqlite_ast.specs.declared.Origin.TheVariants as origin
use Rattle.sqlite_ast.specs.declared.Statement.TheVariants as written
use Rattle.sqlite_schema.specs.Names.{table_named, column_named}
use Rattle.sqlite_draft.specs.declared.query.Draft.{Draft}
use Rattle.sqlite_draft.specs.declared.join.Step.TheVariants.{Inner}
use Rattle.sqlite_draft.specs.Query.{query_of}
use Rattle.sqlite_schema.specs.declared.program.Program.{Program}
use Rattle.sqlite_resolve.specs.declared.state.State.{State}
use Rattle.sqlite_resolve.specs.declared.scope.Output.{Output}
use Rattle.sqlite_resolve.specs.declared.scope.Bound.{Bound}
use Rattle.sqlite_resolve.specs.declared.select.Clauses.{Clauses}
use Rattle.sqlite_resolve.specs.declared.body.Body.{Body}
use Rattle.sqlite_resolve.specs.Lowering.{◌>>=◌, pure, fresh, max_budget, last}
use Rattle.sqlite_resolve.specs.Scope.{Name, is_rowid}
use Rattle.sqlite_resolve.specs.Terms.{number}
use Rattle.sqlite_resolve.specs.Body.{body, outputs, outputs_from, shown, is_column, tests, heading}
use Rattle.sqlite_resolve.specs.Order
use Rattle.sqlite_resolve.specs.Order.{sorts, sorts_from, keys, key, aliased_or, alias_in, peeled}
use Rattle.sqlite_resolve.specs.Expr.{lower}
use Rattle.sqlite_resolve.specs.Select.{outermost, named, parts, assembled, having}
use Rattle.sqlite_resolve.specs.Program.{query, program}
use Rattle.sqlite_resolve.specs.Compile.{read, timed, returning, command}
use Rattle.ftd_sql.specs.Places.{IsAt}
use Rattle.ftd_sql.specs.TextKinds.{IsReadAs}
use Rattle.ftd_sql.proofs.Meaning.{IsAccepted, Means, means, program_is}
use Rattle.sqlite_tied.specs.Compute.{everything}
use Rattle.ftd_sql.proofs.Opened.{opened_ast, opened_select, opened_query}
use Rattle.ftd_sql.proofs.Phrase.{Phrase, Column, Given, Whole, Rows, Two, say, knows, knows_rowid}
use Rattle.ftd_sql.proofs.Phrase.{here, alone, Alike, bind_same, lower_same}

-- a column of the result with no alias: the expression and its text
abbrev pub show : Phrase × List ℕ → Shown
show x = result.One (say x.0) None x.1

abbrev pub sort : Phrase × Bool → Sort
sort x = roll-Sort (record { key = say x.0; descending = x.1; nulls_first = None })

abbrev pub source : List ℕ → Source
source name = roll-Source (record {
  is_left = false;
  origin = origin.Table name;
  alias = None;
  on = None;
  using = [];
})

-- a WHERE, or none
abbrev pub said : Option Phrase → Option Expr
said None = None
said (Some p) = Some (say p)

-- what the parts of the statement hold, once opened
abbrev pub core_in : List ℕ → List (Phrase × List ℕ) → Option Phrase
    → Core-F Expr Shown Arm Core ast.Select Sort Source
core_in name columns test = record {
  distinct = false;
  shown = map show columns;
  from = source name ∷ [];
  filter = said test;
  group = [];
  having = None;
}

abbrev pub core : List ℕ → List (Phrase × List ℕ) → Option Phrase → Core
core name columns test = roll-Core (core_in name columns test)

abbrev pub a_select : List ℕ → List (Phrase × List ℕ) → Option Phrase → List (Phrase × Bool)
    → ast.Select
a_select name columns test order =
    ast.roll-Select (record {
      with = [];
      first = core name columns test;
      others = [];
      order = map sort order;
      limit = None;
      offset = None;
    })

abbrev pub bound : ℕ → List ℕ → Bound
bound at name = record { name = name; table = at; slot = 1; shared = [] }

abbrev pub page : Term × Term
page = (lit (Int (negsuc 0)), number 0)

body_is : (s : Schema) (at : ℕ) (name : List ℕ) (t : Table) (columns : List (Phrase × List ℕ))
    (test : Option Phrase) (c : Core) (outs : List Output) (filters : List Term) (st1 st2 : State)
    → out-Core c ≡ core_in name columns test
    → table_named s name ≡ Some at → slice_get s.tables at ≡ Some t
    → outputs lower (here s at name [] true) (bound at name ∷ []) (map show columns)
    (fresh 2 max_budget) ≡ Ok (outs, st1)
    → tests lower (here s at name outs false) [] (said test) st1 ≡ Ok (filters, st2)
    → body lower (outermost s) c (fresh 1 max_budget) ≡ Ok (
      record {
        level = record { tables = bound at name ∷ []; shown = outs };
        steps = Inner t.tree ∷ [];
        filter = filters;
      },
      st2,
    )
unfolding opened_ast opened_select
body_is s at name t columns test c outs filters st1 st2 opens place listed shown tested =
    rw (opens, place, shown, listed, tested) refl

-- the parts of the statement, lowered
abbrev pub clauses : ℕ → ℕ → Name → List Output → List Term → Bool → List (Term × Key) → Clauses
clauses tree at name outs filters grouped by = record {
  body = (let b : Body = record {
    level = record { tables = bound at name ∷ []; shown = outs };
    steps = Inner tree ∷ [];
    filter = filters;
  } in b);
  is_grouped = grouped;
  keys = [];
  collations = [];
  having = [];
  order = by;
}

named_is : (s : Schema) (at : ℕ) (name : List ℕ) (t : Table) (columns : List (Phrase × List ℕ))
    (test : Option Phrase) (c : Core) (order : List Sort) (outs : List Output) (filters : List Term)
    (grouped : Bool) (by : List (Term × Key)) (d : Draft) (st1 st2 st3 : State)
    → out-Core c ≡ core_in name columns test
    → table_named s name ≡ Some at → slice_get s.tables at ≡ Some t
    → outputs lower (here s at name [] true) (bound at name ∷ []) (map show columns)
    (fresh 2 max_budget) ≡ Ok (outs, st1)
    → tests lower (here s at name outs false) [] (said test) st1 ≡ Ok (filters, st2)
    → not (length st2.aggregates == 0) ≡ grouped
    → sorts lower (here s at name outs grouped) outs order st2 ≡ Ok (by, st3)
    → assembled false page.0 page.1 (clauses t.tree at name outs filters grouped by) st3 ≡ Ok d
    → named s c order page ≡ Ok (d, map (λ o. o.name) outs, map (λ o. o.carried.collation) outs)
unfolding named parts keys having tests
named_is s at name t columns test c order outs filters grouped by d st1 st2 st3 opens place listed
    shown tested is_grouped sorted is =
    rw (
      body_is s at name t columns test c outs filters st1 st2 opens place listed shown tested,
      opens,
      is_grouped,
      sorted,
      is,
    ) refl

abbrev pub select_in : Core → List Sort → Select-F Expr Shown Arm Core ast.Select Sort Source
select_in c order = record {
  with = [];
  first = c;
  others = [];
  order = order;
  limit = None;
  offset = None;
}

query_is : (s : Schema) (name : List ℕ) (columns : List (Phrase × List ℕ)) (test : Option Phrase)
    (q : ast.Select) (c : Core) (order : List Sort) (found : Draft × List Name
    × List (Option Collation))
    → ast.out-Select q ≡ select_in c order → out-Core c ≡ core_in name columns test
    → named s c order page ≡ Ok found → query s q ≡ Ok (found, [])
unfolding opened_ast opened_query
query_is s name columns test q c order found opens cut is = rw (opens, cut, is) refl

read_is : (s : Schema) (q : ast.Select) (found : Draft × List Name × List (Option Collation))
    (p : Program) → query s q ≡ Ok (found, []) → program s [] found.0 ≡ Ok p
    → read s q ≡ Ok (Select p found.1)
unfolding read
read_is s q found p is accepted = rw (is, accepted) refl

-- ---- the same in the table's own schema

abbrev pub all_known : {X : Type 0} → Table → List (Phrase × X) → Bool
all_known t [] = true
all_known t (x ∷ more) = knows t x.0 && all_known t more

abbrev pub knows_test : Table → Option Phrase → Bool
knows_test t None = true
knows_test t (Some p) = knows t p

peeled_is : (p : Phrase) → peeled (say p) ≡ say p
unfolding everything
peeled_is (Column c) = refl
peeled_is (Given n) = refl
peeled_is (Whole text) = refl
peeled_is Rows = refl
peeled_is (Two op a b) = refl

module _ (s : Schema) (at : ℕ) (t : Table) (listed : slice_get s.tables at ≡ Some t)
    (name : Name) where
  heading_by : (may : Bool) (c text : Name) (o : Option ℕ) → column_named t c ≡ o
      → (is_some o || knows_rowid t c) ≡ true
      → heading (here s at name [] may) (say (Column c)) text ≡ heading
      (here (alone t) 0 name [] may) (say (Column c)) text
  unfolding everything
  heading_by may c text (Some k) is h = rw (listed, is, listed) refl
  heading_by may c text None is h =
      let named = (and_parts (is_rowid c) (nat_lt t.tree (2 ^ 31)) h).0 in
      let low = (and_parts (is_rowid c) (nat_lt t.tree (2 ^ 31)) h).1 in
      rw (listed, is, named, low, listed) refl

  heading_same : (may : Bool) (p : Phrase) (text : Name) → knows t p ≡ true
      → heading (here s at name [] may) (say p) text ≡ heading (here (alone t) 0 name [] may)
      (say p) text
  unfolding everything
  heading_same may (Column c) text known = heading_by may c text (column_named t c) refl known
  heading_same may (Given n) text known = refl
  heading_same may (Whole text') text known = refl
  heading_same may Rows text known = refl
  heading_same may (Two op a b) text known = refl

  tests_same : (outs : List Output) (test : Option Phrase) → knows_test t test ≡ true → (st : State)
      → tests lower (here s at name outs false) [] (said test) st ≡ tests lower
      (here (alone t) 0 name outs false) [] (said test) st
  unfolding tests
  tests_same outs None known st = refl
  tests_same outs (Some p) known st = rw (lower_same s at t listed name outs false 700 p known st)
      refl

  shown_same : (done : List Output) (x : Phrase × Name) → knows t x.0 ≡ true
      → Alike (shown lower (here s at name [] true) (bound at name ∷ []) done (show x))
      (shown lower (here (alone t) 0 name [] true) (bound 0 name ∷ []) done (show x))
  unfolding shown opened_ast
  shown_same done x known =
      let f = λ (called : Name) (v : Term). last >>=
      (λ c. pure
      (done ++ (let o : Output = record {
        name = called;
        is_alias = false;
        is_column =
            is_column (say x.0);
        term = v;
        carried = c;
      } in o) ∷ [])) in
      let cx = here s at name [] true in
      let dx = here (alone t) 0 name [] true in
      bind_same (lower cx (say x.0)) (lower dx (say x.0)) (f (heading cx (say x.0) x.1))
      (f (heading dx (say x.0) x.1)) (lower_same s at t listed name [] true 700 x.0 known)
      (λ v st. ap (λ called. f called v st) (heading_same true x.0 x.1 known))

  outputs_from_same : (done : List Output) (columns : List (Phrase × Name))
      → all_known t columns ≡ true
      → Alike (outputs_from lower (here s at name [] true) (bound at name ∷ []) done
      (map show columns)) (outputs_from lower (here (alone t) 0 name [] true)
      (bound 0 name ∷ []) done (map show columns))
  outputs_from_same done [] known = λ st. refl
  outputs_from_same done (x ∷ more) known =
      let cx = here s at name [] true in
      let dx = here (alone t) 0 name [] true in
      bind_same (shown lower cx (bound at name ∷ []) done (show x))
      (shown lower dx (bound 0 name ∷ []) done (show x))
      (λ longer. outputs_from lower cx (bound at name ∷ []) longer (map show more))
      (λ longer. outputs_from lower dx (bound 0 name ∷ []) longer (map show more))
      (shown_same done x (and_parts (knows t x.0) (all_known t more) known).0)
      (λ longer. outputs_from_same longer more (and_parts (knows t x.0) (all_known t more) known).1)

  outputs_same : (columns : List (Phrase × Name)) → all_known t columns ≡ true → (st : State)
      → outputs lower (here s at name [] true) (bound at name ∷ []) (map show columns) st
      ≡ outputs lower (here (alone t) 0 name [] true) (bound 0 name ∷ []) (map show columns) st
  unfolding outputs
  outputs_same = outputs_from_same []

  module _ (outs : List Output) (may : Bool) where
    key_same : (p : Phrase) → knows t p ≡ true
        → Alike (key lower (here s at name outs may) outs (say p))
        (key lower (here (alone t) 0 name outs may) outs (say p))
    unfolding key
    key_same p known st = rw (lower_same s at t listed name outs may 700 p known st) refl

    aliased_same : (p : Phrase) → knows t p ≡ true → (o : Option ℕ)
        → Alike (aliased_or lower (here s at name outs may) outs (say p) o)
        (aliased_or lower (here (alone t) 0 name outs may) outs (say p) o)
    aliased_same p known None = key_same p known
    aliased_same p known (Some k) = λ st. refl

    sort_same : (done : List (Term × Key)) (x : Phrase × Bool) → knows t x.0 ≡ true
        → Alike (Order.sort lower (here s at name outs may) outs done (sort x))
        (Order.sort lower (here (alone t) 0 name outs may) outs done (sort x))
    unfolding Order.sort opened_ast
    sort_same done x known st =
        rw (peeled_is x.0, aliased_same x.0 known (alias_in outs (say x.0)) st) refl

    sorts_from_same : (done : List (Term × Key)) (order : List (Phrase × Bool))
        → all_known t order ≡ true
        → Alike (sorts_from lower (here s at name outs may) outs done (map sort order))
        (sorts_from lower (here (alone t) 0 name outs may) outs done (map sort order))
    sorts_from_same done [] known = λ st. refl
    sorts_from_same done (x ∷ more) known =
        let cx = here s at name outs may in
        let dx = here (alone t) 0 name outs may in
        bind_same (Order.sort lower cx outs done (sort x)) (Order.sort lower dx outs done (sort x))
        (λ longer. sorts_from lower cx outs longer (map sort more))
        (λ longer. sorts_from lower dx outs longer (map sort more))
        (sort_same done x (and_parts (knows t x.0) (all_known t more) known).0)
        (λ longer. sorts_from_same longer more (and_parts (knows t x.0) (all_known t more) known).1)

    sorts_same : (order : List (Phrase × Bool)) → all_known t order ≡ true → (st : State)
        → sorts lower (here s at name outs may) outs (map sort order) st ≡ sorts lower
        (here (alone t) 0 name outs may) outs (map sort order) st
    unfolding sorts
    sorts_same = sorts_from_same []

-- a column of the result that is a column of the table, at this place of a row
abbrev pub out : Name → ℕ → Output
out called k = record {
  name = called;
  is_alias = false;
  is_column = true;
  term = col 1 k;
  carried = record { collation = Some Binary; is_written = false };
}

-- the parts of the statement, computed where the table stands alone
pub record Resolves (t : Table) (name : Name) (columns : List (Phrase × Name))
    (test : Option Phrase) (order : List (Phrase × Bool)) (outs : List Output)
    (draft : Draft) : Type 0 where
  pub filters : List Term
  pub grouped : Bool
  pub keys : List (Term × Key)
  pub after_columns : State
  pub after_test : State
  pub after_order : State
  pub known_columns : all_known t columns ≡ true
  pub known_test : knows_test t test ≡ true
  pub known_order : all_known t order ≡ true
  pub columns_are : outputs lower (here (alone t) 0 name [] true) (bound 0 name ∷ [])
      (map show columns) (fresh 2 max_budget) ≡ Ok (outs, after_columns)
  pub filters_are : tests lower (here (alone t) 0 name outs false) [] (said test) after_columns ≡ Ok
      (filters, after_test)
  pub is_grouped : not (length after_test.aggregates == 0) ≡ grouped
  pub keys_are : sorts lower (here (alone t) 0 name outs grouped) outs (map sort order) after_test
      ≡ Ok (keys, after_order)
  pub draft_is : (at : ℕ) → assembled false page.0 page.1
      (clauses t.tree at name outs filters grouped keys) after_order ≡ Ok draft

pub selects : (s : Schema) (text name : List ℕ) (t : Table) (at : ℕ)
    (columns : List (Phrase × Name)) (test : Option Phrase) (order : List (Phrase × Bool))
    (q : ast.Select) (c : Core)
    (outs : List Output) (draft : Draft)
    → IsAt s name t at → IsReadAs text (written.Select q) → ast.out-Select q ≡ select_in c
    (map sort order) → out-Core c ≡ core_in name columns test
    → Resolves t name columns test order outs draft → IsAccepted t (query_of draft)
    → Means s text (Select (record { lets = []; body = query_of draft }) (map (λ o. o.name) outs))
unfolding timed returning command
selects s text name t at columns test order q c outs draft place r opens cut found accepted =
    let shown = outputs_same s at t place.listed name columns found.known_columns
    (fresh 2 max_budget) ∙ found.columns_are in
    let tested = tests_same s at t place.listed name outs test found.known_test found.after_columns
    ∙ found.filters_are in
    let sorted = sorts_same s at t place.listed name outs found.grouped order found.known_order
    found.after_test ∙ found.keys_are in
    let one = named_is s at name t columns test c (map sort order) outs found.filters found.grouped
    found.keys draft found.after_columns found.after_test found.after_order cut place.named
    place.listed shown tested found.is_grouped sorted (found.draft_is at) in
    let whole = query_is s name columns test q c (map sort order) _ opens cut one in
    means s text _ _ r refl (λ base. refl)
    (λ base. read_is s q _ _ whole (program_is s name t at draft place accepted))

-- What a count of the rows that pass shows.
use Rattle.std.proofs.Common.{◌≡◌, ℕ, ℤ, pos, List, [], ◌∷◌, map, Bool, false, sym, ap, subst, ◌∙◌}
use Rattle.std.proofs.Common.{length, Some, Option}
use Rattle.std.specs.Prelude.{filter, min}
use Rattle.std.specs.List.{list_all, AllZip}
use Rattle.std.specs.List.Sorted.{IsPermutation}
use Rattle.std.proofs.lemmas.List.Sorted.{length_permutation}
use Rattle.std.proofs.lemmas.List.{length-map}
use Rattle.sqlite.specs.declared.types.Value.TheVariants.{Null, Int}
use Rattle.sqlite.specs.Order.{Row}
use Rattle.sqlite.specs.Table.{Table}
use Rattle.sqlite.specs.Term.{Term, Env, lit, col, holds, eval}
use Rattle.sqlite.specs.Query.{Query, IsAnswer, output, Output}
use Rattle.sqlite.specs.Program.{overlay}
use Rattle.sqlite.specs.Collation.TheVariants.{Binary}
use Rattle.sqlite.specs.State.{State}
use Rattle.sqlite.proofs.Callers.{one_permutation}
use Rattle.sqlite_sql.specs.declared.aggregate.AggregateOp.TheVariants.{CountRows}
use Rattle.sqlite_sql.specs.Group.{Grouping, Aggregate, Summarizes, IsSummary, value_over}
use Rattle.ftd_sql.specs.Kept.{stored}
use Rattle.ftd_sql.specs.Places.{Holds}
use Rattle.ftd_sql.proofs.KeptLemmas.{plain_query, scan, scanned, filter_typed, same_tree}
use Rattle.ftd_sql.proofs.OneRow.{Tests}

abbrev pub the_count : Aggregate
the_count = record { op = CountRows; argument = lit Null; distinct = false; collation = Binary }

abbrev pub grouping : Grouping
grouping = record { keys = []; collations = []; aggregates = the_count ∷ []; having = [] }

-- SELECT COUNT(*) over the rows of a tree that pass
abbrev pub count_query : ℕ → List Term → Query
count_query tree filters = record (plain_query tree filters (col 1 0 ∷ []) []) {
  group =
      Some grouping;
}

-- the greatest count that the engine answers
abbrev pub greatest_count : ℕ
greatest_count = 9_223_372_036_854_775_807

some_same : {X : Type 0} {a b : X} → ◌≡◌ {A = Option X} (Some a) (Some b) → a ≡ b
some_same e = cc

values_are : (order : List Env) (vs : Row)
    → AllZip (λ (a : Aggregate) v. value_over order a ≡ Some v) (the_count ∷ []) vs
    → vs ≡ Int (pos (min (length order) greatest_count)) ∷ []
values_are order [] z = absurd z
values_are order (v ∷ []) z = ap (λ w. w ∷ []) (sym (some_same z.0)
    ∙ ap (λ n. Int (pos (min n greatest_count))) (length-map order (eval (lit Null))))
values_are order (v ∷ w ∷ more) z = absurd z.1

-- the one group of a count
one_group : (params : Row) (all staged : List Env) → Summarizes grouping params all staged
    → staged ≡ (params ∷ (Int (pos (min (length all) greatest_count)) ∷ []) ∷ []) ∷ []
one_group params all staged s =
    let order = s.grouping.0 in
    let sums = subst (λ gs. AllZip (IsSummary grouping) gs s.rows) s.grouping.2 s.summaries in
    let len : length order ≡ length all = length_permutation all order s.grouping.1 in
    subst (λ n. staged ≡ (params ∷ (Int (pos (min n greatest_count)) ∷ []) ∷ []) ∷ []) len
    (go order s.rows sums s.having)
  where
    go : (order : List Env) (rows : List Row) → AllZip (IsSummary grouping) (order ∷ []) rows
        → staged ≡ filter (λ env. list_all (holds env) []) (map (λ r. params ∷ r ∷ []) rows)
        → staged ≡ (params ∷ (Int (pos (min (length order) greatest_count)) ∷ []) ∷ []) ∷ []
    go order [] h e = absurd h
    go order (r ∷ []) h e = e ∙ ap (λ (row : Row). (params ∷ row ∷ []) ∷ [])
        (h.0.2 ∙ values_are order h.0.0 h.0.1)
    go order (r ∷ x ∷ more) h e = absurd h.1

-- a count shows one row: how many rows pass
pub counts_rows : {X : Type 0} {acted : Bool} (old : State) (name : List ℕ) (make : ℕ → Table)
    (cells : X → Row) (xs : List X) (test : X → Bool)
    (h : Holds acted old.now name make cells xs) (filters : List Term) (params : Row)
    (rows : List Row)
    → Tests cells test filters params
    → IsAnswer (count_query h.tree filters) (overlay old.now.trees []) params rows
    → rows ≡ (Int (pos (min (length (filter test xs)) greatest_count)) ∷ []) ∷ []
counts_rows {X = X} old name make cells xs test h filters params rows tested a =
    let q = count_query h.tree filters in
    let kept = h.rows.kept in
    let all = scan filters params (overlay old.now.trees [] h.tree) in
    let staged = one_group params all a.staged a.grouped in
    let env = params ∷ (Int (pos (min (length all) greatest_count)) ∷ []) ∷ [] in
    let shown : a.kept ≡ output q env ∷ [] = a.distinct ∙ ap (map (output q)) staged in
    let alone = one_permutation (output q env) a.ordered
    (subst (λ k. IsPermutation k a.ordered) shown a.same) in
    let rows_are : rows ≡ (Int (pos (min (length all) greatest_count)) ∷ []) ∷ [] = a.shown
    ∙ ap (map (λ (o : Output). o.1)) alone in
    let passed : all ≡ map (λ p. params ∷ stored cells p ∷ []) (filter (λ p. test p.1) kept) =
    ap (scan filters params) (same_tree old.now.trees h.tree ∙ h.rows.rows_are)
    ∙ scanned cells test filters params tested kept in
    let len : length all ≡ length (filter test xs) =
    ap length passed ∙ length-map (filter (λ p. test p.1) kept) (λ p. params ∷ stored cells p ∷ [])
    ∙ sym (length-map (filter (λ p. test p.1) kept) (λ (p : ℤ × X). p.1))
    ∙ ap length (filter_typed test kept ∙ ap (filter test) h.rows.typed) in
    rows_are ∙ ap (λ n. (Int (pos (min n greatest_count)) ∷ []) ∷ []) len

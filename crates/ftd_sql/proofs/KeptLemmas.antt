-- What SQL makes of a table that is a list of typed rows.
use Rattle.std.proofs.Common.{negsuc, Option, None, Some, slice_get, unwrap_or, nat_le, ◌-◌, ◌^◌}
use Rattle.std.proofs.Common.{◌≡◌, ℕ, ℤ, pos, List, [], ◌∷◌, map, Bool, true, false, cond, refl}
use Rattle.std.proofs.Common.{sym, ap, subst, ◌∙◌, is_eq}
use Rattle.std.specs.Prelude.{filter, flat_map, bytes_eq}
use Rattle.std.specs.List.{list_all}
use Rattle.std.proofs.lemmas.Map.Text.{is_eq-slice_cmp}
use Rattle.sqlite.specs.declared.types.Value.{Value}
use Rattle.sqlite.specs.declared.types.Value.TheVariants.{Null, Int, Text}
use Rattle.sqlite.specs.Cast.{cast}
use Rattle.sqlite.specs.Kind.TheVariants as kind
use Rattle.sqlite.specs.Order.{Row, value_cmp}
use Rattle.sqlite.specs.Query.{Query, inner, end, IsAnswer, output, Output}
use Rattle.sqlite_sql.specs.Ops.{is_true, from_truth, binary, unary}
use Rattle.sqlite.specs.Collation.TheVariants.{Binary}
use Rattle.sqlite_sql.specs.declared.ops.BinaryOp.TheVariants.{Compare}
use Rattle.sqlite_sql.specs.declared.ops.CompareOp.TheVariants.{Eq}
use Rattle.sqlite.specs.Program.{overlay}
use Rattle.sqlite.specs.Tree.{Trees}
use Rattle.sqlite_value.specs.declared.keys.Key.{Key}
use Rattle.std.specs.List.Sorted.{IsPermutation}
use Rattle.std.proofs.lemmas.List.Sorted.{IsPermutation-map}
use Rattle.sqlite.specs.Term.{Term, Env, holds, lit, eval_all}
use Rattle.sqlite_value.proofs.OrderLemmas.{value_cmp-Text}
use Rattle.sqlite.specs.Values.{or_null}
use Rattle.ftd_sql.specs.Kept.{stored}

-- the ways to fill a query over one table
abbrev pub scan : List Term → Row → List Row → List Env
scan filters params = flat_map (λ r. cond (list_all (holds (params ∷ r ∷ [])) filters)
    ((params ∷ r ∷ []) ∷ []) [])

-- the rows that pass a WHERE are those of the typed rows that pass a test
pub scanned : {X : Type 0} (cells : X → Row) (test : X → Bool) (filters : List Term) (params : Row)
    → ((p : ℤ × X) → list_all (holds (params ∷ stored cells p ∷ [])) filters ≡ test p.1)
    → (kept : List (ℤ × X)) → scan filters params (map (stored cells) kept) ≡ map
    (λ p. params ∷ stored cells p ∷ []) (filter (λ p. test p.1) kept)
scanned cells test filters params same [] = refl
scanned cells test filters params same (p ∷ kept) =
    go (test p.1) refl (scanned cells test filters params same kept)
  where
    go : (b : Bool) → test p.1 ≡ b → scan filters params (map (stored cells) kept) ≡ map
        (λ p. params ∷ stored cells p ∷ []) (filter (λ p. test p.1) kept)
        → scan filters params (map (stored cells) (p ∷ kept)) ≡ map
        (λ p. params ∷ stored cells p ∷ []) (filter (λ p. test p.1) (p ∷ kept))
    go true is more = rw (same p, is) (ap (λ all. (params ∷ stored cells p ∷ []) ∷ all) more)
    go false is more = rw (same p, is) more

pub filter_typed : {X : Type 0} (test : X → Bool) (kept : List (ℤ × X))
    → map (λ p. p.1) (filter (λ p. test p.1) kept) ≡ filter test (map (λ p. p.1) kept)
filter_typed test [] = refl
filter_typed test (p ∷ kept) = go (test p.1) refl (filter_typed test kept)
  where
    go : (b : Bool) → test p.1 ≡ b → map (λ p. p.1) (filter (λ p. test p.1) kept) ≡ filter test
        (map (λ p. p.1) kept)
        → map (λ p. p.1) (filter (λ p. test p.1) (p ∷ kept)) ≡ filter test
        (map (λ p. p.1) (p ∷ kept))
    go true is more = rw is (ap (λ all. p.1 ∷ all) more)
    go false is more = rw is more

-- the equality of SQL on texts
pub same_text : (a b : List ℕ) → is_eq (value_cmp (Text a) (Text b)) ≡ bytes_eq a b
same_text a b = ap is_eq (value_cmp-Text a b) ∙ is_eq-slice_cmp a b

pub map_map : {A B C : Type 0} (f : B → C) (g : A → B) (xs : List A)
    → map f (map g xs) ≡ map (λ x. f (g x)) xs
map_map f g [] = refl
map_map f g (x ∷ xs) = ap (λ all. f (g x) ∷ all) (map_map f g xs)

-- ---- a query over one table, with no group and no page

abbrev pub plain_query : ℕ → List Term → List Term → List (Term × Key) → Query
plain_query tree filters project order = record {
  from = inner tree end;
  filter = filters;
  group = None;
  project = project;
  distinct = false;
  collations = [];
  order = order;
  limit = lit (Int (negsuc 0));
  offset = lit (Int (pos 0));
}

-- no table is computed before the query
pub same_tree : (db : Trees) (t : ℕ) → overlay db [] t ≡ db t
same_tree db t = go (nat_le (2 ^ 31) t)
  where
    go : (b : Bool) → unwrap_or (cond b (slice_get {X = List Row} [] (t - 2 ^ 31)) None) (db t)
        ≡ db t
    go true = refl
    go false = refl

-- an answer in no order is a permutation of the rows that pass
pub answer_unordered : (tree : ℕ) (filters project : List Term) (db : Trees) (params : Row)
    (rows : List Row)
    → IsAnswer (plain_query tree filters project []) (overlay db []) params rows
    → IsPermutation (map (eval_all project) (scan filters params (db tree))) rows
answer_unordered tree filters project db params rows a =
    let q = plain_query tree filters project [] in
    let staged : a.staged ≡ scan filters params (db tree) = a.grouped ∙ ap (scan filters params)
    (same_tree db tree) in
    let kept : a.kept ≡ map (output q) (scan filters params (db tree)) = a.distinct
    ∙ ap (map (output q)) staged in
    let moved : IsPermutation (map (output q) (scan filters params (db tree))) a.ordered =
    subst (λ k. IsPermutation k a.ordered) kept a.same in
    let shown : IsPermutation
    (map (λ (o : Output). o.1) (map (output q) (scan filters params (db tree))))
    (map (λ (o : Output). o.1) a.ordered) = IsPermutation-map (λ (o : Output). o.1) _ _ moved in
    subst (IsPermutation (map (eval_all project) (scan filters params (db tree)))) (sym a.shown)
    (subst (λ l. IsPermutation l (map (λ (o : Output). o.1) a.ordered))
    (map_map (λ (o : Output). o.1) (output q) (scan filters params (db tree))) shown)

pub truth_is : (b : Bool) → is_true (from_truth (Some b)) ≡ b
truth_is true = refl
truth_is false = refl

-- `=` of a WHERE on texts
pub text_is : (a b : List ℕ) → is_true (binary (Compare Eq Binary) (Text a) (Text b)) ≡ bytes_eq a b
unfolding binary
text_is a b = ap (λ c. is_true (from_truth (Some c))) (same_text a b) ∙ truth_is (bytes_eq a b)

-- ---- the casts of STRICT columns

either : (b : Bool) (x : Value) → cond b x x ≡ x
either true x = refl
either false x = refl

pub cast_null : cast kind.Integer Null ≡ Null
unfolding unary
cast_null = either _ Null

pub cast_int : (n : ℤ) → cast kind.Integer (Int n) ≡ Int n
unfolding unary
cast_int n = either _ (Int n)

-- a column that may be NULL
pub cast_int_or_null : (o : Option ℤ) → cast kind.Integer (or_null Int o) ≡ or_null Int o
cast_int_or_null None = cast_null
cast_int_or_null (Some n) = cast_int n

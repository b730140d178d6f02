-- What a write makes of a table that is a list of typed rows.
use Rattle.std.proofs.Common.{◌≡◌, ℤ, pos, ◌+ℤ◌, List, [], ◌∷◌, ◌++◌, map, Bool, true, false, cond}
use Rattle.std.proofs.Common.{not, refl, sym, ap, subst, ◌∙◌, Less, Equal, Greater, is_eq, arith}
use Rattle.std.specs.Prelude.{filter, fold, ◌||◌}
use Rattle.std.specs.List.{list_any, AllByRecursion}
use Rattle.std.specs.List.Sorted.{IsPermutation}
use Rattle.std.proofs.lemmas.List.Sorted.{list_any-IsPermutation}
use Rattle.ftd_sql.proofs.KeptLemmas.{filter_typed}
use Rattle.std.specs.Int.Signed.{◌<ℤ◌}
use Rattle.std.specs.Cmp.{int_cmp_is, int_chain}
use Rattle.std.specs.Ordering.{int_cmp}
use Rattle.std.proofs.lemmas.Int.{ints}
use Rattle.sqlite.specs.declared.types.Value.TheVariants.{Int}
use Rattle.sqlite.specs.Order.{Row, value_cmp}
use Rattle.sqlite.specs.Tree.{put_row, rowid, without_rowid}
use Rattle.sqlite.specs.Edit.{next_rowid, id_in, without_all}
use Rattle.sqlite_value.proofs.OrderLemmas.{value_cmp-Int}
use Rattle.ftd_sql.specs.Kept.{stored, Rise, HasCells, changed}

-- ---- one more row

abbrev next_from : {X : Type 0} → (X → Row) → ℤ → List (ℤ × X) → ℤ
next_from cells start kept = fold (λ (_ : ℤ) r. id_in (rowid r) +ℤ pos 1) start
    (map (stored cells) kept)

abbrev AllBelow : {X : Type 0} → ℤ → List (ℤ × X) → Type 0
AllBelow top kept = AllByRecursion (λ p. p.0 <ℤ top) kept

below_next : {X : Type 0} (cells : X → Row) (a : ℤ) (x : X) (kept : List (ℤ × X))
    → Rise ((a, x) ∷ kept)
    → (a <ℤ next_from cells (a +ℤ pos 1) kept) × AllBelow (next_from cells (a +ℤ pos 1) kept) kept
below_next cells a x [] rise = (omega (arith, ints), tt)
below_next cells a x (p ∷ kept) rise =
    let more = below_next cells p.0 p.1 kept rise.1 in
    (int_chain a p.0 (next_from cells (p.0 +ℤ pos 1) kept) rise.0.0 more.0, more)

all_below : {X : Type 0} (cells : X → Row) (kept : List (ℤ × X)) → Rise kept
    → AllBelow (next_rowid (map (stored cells) kept)) kept
all_below cells [] rise = tt
all_below cells (p ∷ kept) rise = below_next cells p.0 p.1 kept rise

less : (m n : ℤ) → m <ℤ n → value_cmp (Int m) (Int n) ≡ Less
less m n h = value_cmp-Int m n ∙ sym (int_cmp_is m n Less h)

put_last : {X : Type 0} (cells : X → Row) (n : ℤ) (x : X) (kept : List (ℤ × X)) → AllBelow n kept
    → put_row (stored cells (n, x)) (map (stored cells) kept) ≡ map (stored cells)
    (kept ++ (n, x) ∷ [])
put_last cells n x [] below = refl
put_last cells n x (p ∷ kept) below = rw (less p.0 n below.0)
    (ap (λ rows. stored cells p ∷ rows) (put_last cells n x kept below.1))

rise_last : {X : Type 0} (n : ℤ) (x : X) (kept : List (ℤ × X)) → Rise kept → AllBelow n kept
    → Rise (kept ++ (n, x) ∷ [])
rise_last n x [] rise below = (tt, tt)
rise_last {X = X} n x (p ∷ kept) rise below = (each kept rise.0, rise_last n x kept rise.1 below.1)
  where
    each : (rest : List (ℤ × X)) → AllByRecursion (λ b. p.0 <ℤ b.0) rest
        → AllByRecursion (λ b. p.0 <ℤ b.0) (rest ++ (n, x) ∷ [])
    each [] h = (below.0, tt)
    each (q ∷ rest) h = (h.0, each rest h.1)

typed_last : {X : Type 0} (n : ℤ) (x : X) (kept : List (ℤ × X))
    → map (λ p. p.1) (kept ++ (n, x) ∷ []) ≡ map (λ p. p.1) kept ++ x ∷ []
typed_last n x [] = refl
typed_last n x (p ∷ kept) = ap (λ xs. p.1 ∷ xs) (typed_last n x kept)

-- a row whose rowid is chosen comes last
pub keeps_more : {X : Type 0} (cells : X → Row) (rows : List Row) (xs : List X) (x : X)
    → HasCells cells rows xs → HasCells cells (put_row (Int (next_rowid rows) ∷ cells x) rows)
    (xs ++ x ∷ [])
keeps_more cells rows xs x k =
    let n = next_rowid (map (stored cells) k.kept) in
    let below = all_below cells k.kept k.rise in
    record {
      kept = k.kept ++ (n, x) ∷ [];
      rows_are = ap (λ rs. put_row (Int (next_rowid rs) ∷ cells x) rs) k.rows_are
          ∙ put_last cells n x k.kept below;
      typed = typed_last n x k.kept ∙ ap (λ all. all ++ x ∷ []) k.typed;
      rise = rise_last n x k.kept k.rise below;
    }

-- ---- rows taken out

abbrev pub same_id : ℤ → ℤ → Bool
same_id a b = is_eq (int_cmp a b)

-- the rowids of the rows that pass the test
abbrev pub ids_that : {X : Type 0} → (X → Bool) → List (ℤ × X) → List ℤ
ids_that test kept = map (λ p. p.0) (filter (λ p. test p.1) kept)

with_both : {X : Type 0} {P Q R : X → Type 0} → ((x : X) → P x → Q x → R x) → (xs : List X)
    → AllByRecursion P xs → AllByRecursion Q xs → AllByRecursion R xs
with_both f [] p q = tt
with_both f (x ∷ xs) p q = (f x p.0 q.0, with_both f xs p.1 q.1)

itself : (a : ℤ) → same_id a a ≡ true
itself a = ap is_eq (sym (int_cmp_is a a Equal refl))

above : (a b : ℤ) → a <ℤ b → same_id b a ≡ false
above a b h = ap is_eq (sym (int_cmp_is b a Greater h))

below : (a b : ℤ) → a <ℤ b → same_id a b ≡ false
below a b h = ap is_eq (sym (int_cmp_is a b Less h))

-- no later row has the rowid
none_later : {X : Type 0} (test : X → Bool) (a : ℤ) (kept : List (ℤ × X))
    → AllByRecursion (λ p. a <ℤ p.0) kept → list_any (same_id a) (ids_that test kept) ≡ false
none_later test a [] h = refl
none_later {X = X} test a (p ∷ kept) h = go (test p.1) refl (none_later test a kept h.1)
  where
    go : (b : Bool) → test p.1 ≡ b → list_any (same_id a) (ids_that test kept) ≡ false
        → list_any (same_id a) (ids_that test (p ∷ kept)) ≡ false
    go true is more = rw (is, below a p.0 h.0) more
    go false is more = rw is more

-- a row has one of these rowids exactly if it passes the test
hits : {X : Type 0} (test : X → Bool) (kept : List (ℤ × X)) → Rise kept
    → AllByRecursion (λ p. list_any (same_id p.0) (ids_that test kept) ≡ test p.1) kept
hits test [] rise = tt
hits {X = X} test (q ∷ kept) rise = go (test q.1) refl (hits test kept rise.1)
  where
    go : (b : Bool) → test q.1 ≡ b
        → AllByRecursion (λ p. list_any (same_id p.0) (ids_that test kept) ≡ test p.1) kept
        → AllByRecursion (λ p. list_any (same_id p.0) (ids_that test (q ∷ kept)) ≡ test p.1)
        (q ∷ kept)
    go true is more =
        let e : ids_that test (q ∷ kept) ≡ q.0 ∷ ids_that test kept = rw is refl in
        subst (λ ids. AllByRecursion (λ p. list_any (same_id p.0) ids ≡ test p.1) (q ∷ kept))
        (sym e) (
          rw (itself q.0, is) refl,
          with_both {X = ℤ × X} {P = λ p. q.0 <ℤ p.0} {Q =
              λ p. list_any (same_id p.0) (ids_that test kept) ≡ test p.1} {R =
              λ p. list_any (same_id p.0) (q.0 ∷ ids_that test kept) ≡ test p.1}
              (λ p up one. rw (above q.0 p.0 up) one) kept rise.0 more,
        )
    go false is more =
        let e : ids_that test (q ∷ kept) ≡ ids_that test kept = rw is refl in
        subst (λ ids. AllByRecursion (λ p. list_any (same_id p.0) ids ≡ test p.1) (q ∷ kept))
        (sym e) (none_later test q.0 kept rise.0 ∙ sym is, more)

filter_same : {X : Type 0} (f g : X → Bool) (xs : List X) → AllByRecursion (λ x. f x ≡ g x) xs
    → filter (λ x. not (f x)) xs ≡ filter (λ x. not (g x)) xs
filter_same f g [] h = refl
filter_same f g (x ∷ xs) h =
    rw h.0 (ap (λ rest. cond (not (g x)) (x ∷ rest) rest) (filter_same f g xs h.1))

-- `without_all` takes out each row that has one of the rowids
without_one : {X : Type 0} (cells : X → Row) (id : ℤ) (kept : List (ℤ × X))
    → without_rowid id (map (stored cells) kept) ≡ map (stored cells)
    (filter (λ p. not (same_id p.0 id)) kept)
without_one cells id [] = refl
without_one {X = X} cells id (p ∷ kept) = go (same_id p.0 id) refl (without_one cells id kept)
  where
    go : (b : Bool) → same_id p.0 id ≡ b → without_rowid id (map (stored cells) kept) ≡ map
        (stored cells) (filter (λ p. not (same_id p.0 id)) kept)
        → without_rowid id (map (stored cells) (p ∷ kept)) ≡ map (stored cells)
        (filter (λ p. not (same_id p.0 id)) (p ∷ kept))
    go true is more = rw (value_cmp-Int p.0 id, is) more
    go false is more = rw (value_cmp-Int p.0 id, is) (ap (λ rows. stored cells p ∷ rows) more)

filter_twice : {X : Type 0} (f g : X → Bool) (xs : List X) → filter (λ x. not (g x))
    (filter (λ x. not (f x)) xs) ≡ filter (λ x. not (f x || g x)) xs
filter_twice f g [] = refl
filter_twice {X = X} f g (x ∷ xs) = go (f x) refl (filter_twice f g xs)
  where
    go : (b : Bool) → f x ≡ b → filter (λ x. not (g x)) (filter (λ x. not (f x)) xs) ≡ filter
        (λ x. not (f x || g x)) xs
        → filter (λ x. not (g x)) (filter (λ x. not (f x)) (x ∷ xs)) ≡ filter
        (λ x. not (f x || g x)) (x ∷ xs)
    go true is more = rw is more
    go false is more = rw is (ap (λ rest. cond (not (g x)) (x ∷ rest) rest) more)

filter_all : {X : Type 0} (xs : List X) → xs ≡ filter (λ x. not false) xs
filter_all [] = refl
filter_all (x ∷ xs) = ap (λ rest. x ∷ rest) (filter_all xs)

taken_out : {X : Type 0} (cells : X → Row) (ids : List ℤ) (kept : List (ℤ × X))
    → without_all (map (stored cells) kept) ids ≡ map (stored cells)
    (filter (λ p. not (list_any (same_id p.0) ids)) kept)
taken_out cells [] kept = ap (map (stored cells)) (filter_all kept)
taken_out cells (id ∷ ids) kept =
    ap (λ rows. without_all rows ids) (without_one cells id kept)
    ∙ taken_out cells ids (filter (λ p. not (same_id p.0 id)) kept)
    ∙ ap (map (stored cells)) (filter_twice (λ p. same_id p.0 id) (λ p. list_any (same_id p.0) ids)
    kept)

all_kept : {X : Type 0} (P : X → Type 0) (f : X → Bool) (xs : List X) → AllByRecursion P xs
    → AllByRecursion P (filter f xs)
all_kept P f [] h = tt
all_kept {X = X} P f (x ∷ xs) h = go (f x) refl (all_kept P f xs h.1)
  where
    go : (b : Bool) → f x ≡ b → AllByRecursion P (filter f xs)
        → AllByRecursion P (filter f (x ∷ xs))
    go true is more = rw is (h.0, more)
    go false is more = rw is more

rise_kept : {X : Type 0} (f : ℤ × X → Bool) (kept : List (ℤ × X)) → Rise kept → Rise (filter f kept)
rise_kept f [] rise = tt
rise_kept {X = X} f (p ∷ kept) rise = go (f p) refl (rise_kept f kept rise.1)
  where
    go : (b : Bool) → f p ≡ b → Rise (filter f kept) → Rise (filter f (p ∷ kept))
    go true is more = rw is (all_kept (λ q. p.0 <ℤ q.0) f kept rise.0, more)
    go false is more = rw is more

-- the rows that pass the test are taken out
pub keeps_fewer : {X : Type 0} (cells : X → Row) (test : X → Bool) (rows : List Row) (xs : List X)
    (ids : List ℤ) (k : HasCells cells rows xs)
    → IsPermutation (ids_that test k.kept) ids → HasCells cells (without_all rows ids)
    (filter (λ x. not (test x)) xs)
keeps_fewer {X = X} cells test rows xs ids k moved =
    let same = with_both {X = ℤ × X} {P = λ p. list_any (same_id p.0) (ids_that test k.kept)
    ≡ test p.1} {Q = λ p. list_any (same_id p.0) (ids_that test k.kept) ≡ test p.1} {R =
    λ p. list_any (same_id p.0) ids ≡ test p.1}
    (λ p h _. sym (list_any-IsPermutation (same_id p.0) (ids_that test k.kept) ids moved)
    ∙ h) k.kept (hits test k.kept k.rise) (hits test k.kept k.rise) in
    record {
      kept = filter (λ p. not (test p.1)) k.kept;
      rows_are = ap (λ rs. without_all rs ids) k.rows_are ∙ taken_out cells ids k.kept
          ∙ ap (map (stored cells)) (filter_same (λ p. list_any (same_id p.0) ids)
          (λ p. test p.1) k.kept same);
      typed = filter_typed (λ x. not (test x)) k.kept ∙ ap (filter (λ x. not (test x))) k.typed;
      rise = rise_kept (λ p. not (test p.1)) k.kept k.rise;
    }

-- ---- one row changed

abbrev change : {X : Type 0} → (X → Bool) → (X → X) → ℤ × X → ℤ × X
change test f q = (q.0, changed test f q.1)

none_changed : {X : Type 0} (test : X → Bool) (f : X → X) (kept : List (ℤ × X))
    → filter (λ q. test q.1) kept ≡ [] → map (change test f) kept ≡ kept
none_changed test f [] e = refl
none_changed {X = X} test f (q ∷ kept) e = go (test q.1) refl (none_changed test f kept)
  where
    go : (b : Bool) → test q.1 ≡ b
        → (filter (λ q. test q.1) kept ≡ [] → map (change test f) kept ≡ kept)
        → map (change test f) (q ∷ kept) ≡ q ∷ kept
    go true is more = absurd (let h = rw is at e in cc)
    go false is more = rw is (ap (λ rest. q ∷ rest) (more (rw is at e)))

all_later : {X : Type 0} (a : ℤ) (kept : List (ℤ × X)) → AllByRecursion (λ p. a <ℤ p.0) kept
    → filter (λ q. not (same_id q.0 a)) kept ≡ kept
all_later a [] h = refl
all_later a (p ∷ kept) h = rw (above a p.0 h.0) (ap (λ rest. p ∷ rest) (all_later a kept h.1))

put_first : {X : Type 0} (cells : X → Row) (n : ℤ) (x : X) (kept : List (ℤ × X))
    → AllByRecursion (λ p. n <ℤ p.0) kept → put_row (stored cells (n, x)) (map (stored cells) kept)
    ≡ map (stored cells) ((n, x) ∷ kept)
put_first cells n x [] h = refl
put_first cells n x (p ∷ kept) h = rw (value_cmp-Int p.0 n, sym (int_cmp_is p.0 n Greater h.0)) refl

put_back : {X : Type 0} (cells : X → Row) (test : X → Bool) (f : X → X) (kept : List (ℤ × X))
    (p : ℤ × X) → Rise kept → filter (λ q. test q.1) kept ≡ p ∷ []
    → put_row (stored cells (p.0, f p.1))
    (map (stored cells) (filter (λ q. not (same_id q.0 p.0)) kept)) ≡ map (stored cells)
    (map (change test f) kept)
put_back cells test f [] p rise e = absurd cc
put_back {X = X} cells test f (q ∷ kept) p rise e =
    go (test q.1) refl (put_back cells test f kept p rise.1)
  where
    go : (b : Bool) → test q.1 ≡ b
        → (filter (λ q. test q.1) kept ≡ p ∷ [] → put_row (stored cells (p.0, f p.1))
        (map (stored cells) (filter (λ q. not (same_id q.0 p.0)) kept)) ≡ map (stored cells)
        (map (change test f) kept))
        → put_row (stored cells (p.0, f p.1))
        (map (stored cells) (filter (λ q. not (same_id q.0 p.0)) (q ∷ kept))) ≡ map (stored cells)
        (map (change test f) (q ∷ kept))
    go true is more =
        let both : q ∷ filter (λ q. test q.1) kept ≡ p ∷ [] = rw is at e in
        let first : p ≡ q = cc in
        let rest : filter (λ q. test q.1) kept ≡ [] = cc in
        subst (λ (r : ℤ × X). put_row (stored cells (r.0, f r.1))
        (map (stored cells) (filter (λ x. not (same_id x.0 r.0)) (q ∷ kept))) ≡ map (stored cells)
        (map (change test f) (q ∷ kept))) (sym first)
        (rw (itself q.0, all_later q.0 kept rise.0, none_changed test f kept rest, is)
        (put_first cells q.0 (f q.1) kept rise.0))
    go false is more =
        let rest : filter (λ q. test q.1) kept ≡ p ∷ [] = rw is at e in
        let up : q.0 <ℤ p.0 =
        (subst (AllByRecursion (λ r. q.0 <ℤ r.0)) rest
        (all_kept (λ r. q.0 <ℤ r.0) (λ r. test r.1) kept rise.0)).0 in
        rw (below q.0 p.0 up, value_cmp-Int q.0 p.0, sym (int_cmp_is q.0 p.0 Less up), is)
        (ap (λ rows. stored cells q ∷ rows) (more rest))

typed_changed : {X : Type 0} (test : X → Bool) (f : X → X) (kept : List (ℤ × X))
    → map (λ p. p.1) (map (change test f) kept) ≡ map (changed test f) (map (λ p. p.1) kept)
typed_changed test f [] = refl
typed_changed test f (p ∷ kept) = ap (λ rest. changed test f p.1 ∷ rest) (typed_changed test f kept)

rise_changed : {X : Type 0} (test : X → Bool) (f : X → X) (kept : List (ℤ × X)) → Rise kept
    → Rise (map (change test f) kept)
rise_changed test f [] rise = tt
rise_changed {X = X} test f (p ∷ kept) rise = (each kept rise.0, rise_changed test f kept rise.1)
  where
    each : (rest : List (ℤ × X)) → AllByRecursion (λ b. p.0 <ℤ b.0) rest
        → AllByRecursion (λ b. p.0 <ℤ b.0) (map (change test f) rest)
    each [] h = tt
    each (q ∷ rest) h = (h.0, each rest h.1)

-- the one row that passes the test is replaced
pub keeps_changed : {X : Type 0} (cells : X → Row) (test : X → Bool) (f : X → X) (rows : List Row)
    (xs : List X) (k : HasCells cells rows xs) (p : ℤ × X)
    → filter (λ q. test q.1) k.kept ≡ p ∷ []
    → HasCells cells (put_row (Int p.0 ∷ cells (f p.1)) (without_rowid p.0 rows))
    (map (changed test f) xs)
keeps_changed cells test f rows xs k p one = record {
  kept = map (change test f) k.kept;
  rows_are = ap (λ rs. put_row (Int p.0 ∷ cells (f p.1)) (without_rowid p.0 rs)) k.rows_are
      ∙ ap (put_row (Int p.0 ∷ cells (f p.1))) (without_one cells p.0 k.kept)
      ∙ put_back cells test f k.kept p k.rise one;
  typed = typed_changed test f k.kept ∙ ap (map (changed test f)) k.typed;
  rise = rise_changed test f k.kept k.rise;
}

pub one_of : {X Y : Type 0} (f : X → Y) (xs : List X) (y : Y) → map f xs ≡ y ∷ []
    → (x : X) × (xs ≡ x ∷ []) × (f x ≡ y)
one_of f [] y e = absurd cc
one_of f (x ∷ []) y e = (x, refl, cc)
one_of f (x ∷ z ∷ more) y e = absurd cc

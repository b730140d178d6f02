-- Where tables stand once one more table is made.
use Rattle.std.proofs.Common.{◌≡◌, ◌≢◌, ◌⊎◌, inl, inr, ℕ, zero, suc, ◌+◌, ◌<◌, ◌≤◌, max, List, []}
use Rattle.std.proofs.Common.{◌∷◌, ◌++◌, ◌∙◌, refl, sym, ap, subst, Option, Some, None, Bool, true}
use Rattle.std.proofs.Common.{false, cond, slice_get, length, arith, nat_le, ◌^◌}
use Rattle.std.proofs.lemmas.Bool.{ne_eqb}
use Rattle.std.proofs.lemmas.Bool.Decides.{nat_tests}
use Rattle.std.specs.Prelude.{find, fold, ◌==◌, option_and_then, option_map}
use Rattle.std.specs.List.{AllByRecursion, position_from}
use Rattle.sqlite.specs.Schema.{Schema}
use Rattle.sqlite.specs.Table.{Table}
use Rattle.sqlite.specs.Change.{created, next_tree}
use Rattle.sqlite_schema.specs.declared.schema.Reference.{Reference}
use Rattle.sqlite_schema.specs.declared.schema.Index.{Index}
use Rattle.sqlite_schema.specs.Names.{same_name, table_named}
use Rattle.sqlite_schema.specs.Rules.{ParentKey, key_in, key_places, declared_order}
use Rattle.sqlite_value.specs.declared.keys.Order.{Order}
use Rattle.ftd_sql.specs.Places.{IsAt, Spares, IsSpared, HasNoAction, IsUnnamed}

-- ---- lists

pub position_kept : {X : Type 0} (p : X → Bool) (i k : ℕ) (xs ys : List X)
    → position_from p i xs ≡ Some k → position_from p i (xs ++ ys) ≡ Some k
position_kept p i k [] ys e = absurd cc
position_kept {X = X} p i k (x ∷ xs) ys e = go (p x) (λ h. position_kept p (i + 1) k xs ys h) e
  where
    go : (b : Bool) → (position_from p (i + 1) xs ≡ Some k → position_from p (i + 1) (xs ++ ys)
        ≡ Some k) → cond b (Some i) (position_from p (i + 1) xs) ≡ Some k
        → cond b (Some i) (position_from p (i + 1) (xs ++ ys)) ≡ Some k
    go true more h = h
    go false more h = more h

position_new : {X : Type 0} (p : X → Bool) (i : ℕ) (xs : List X) (y : X)
    → position_from p i xs ≡ None → p y ≡ true → position_from p i (xs ++ y ∷ []) ≡ Some
    (i + length xs)
position_new p i [] y none has = rw has (ap Some (omega arith))
position_new {X = X} p i (x ∷ xs) y none has = go (p x) (λ h. position_new p (i + 1) xs y h has)
    none
  where
    go : (b : Bool) → (position_from p (i + 1) xs ≡ None → position_from p (i + 1) (xs ++ y ∷ [])
        ≡ Some (i + 1 + length xs)) → cond b (Some i) (position_from p (i + 1) xs) ≡ None
        → cond b (Some i) (position_from p (i + 1) (xs ++ y ∷ [])) ≡ Some (i + suc (length xs))
    go true more h = absurd cc
    go false more h = more h ∙ ap Some (omega arith)

pub get_kept : {X : Type 0} (xs ys : List X) (k : ℕ) (x : X) → slice_get xs k ≡ Some x
    → slice_get (xs ++ ys) k ≡ Some x
get_kept [] ys k x e = absurd cc
get_kept (y ∷ xs) ys zero x e = e
get_kept (y ∷ xs) ys (suc k) x e = get_kept xs ys k x e

pub get_new : {X : Type 0} (xs : List X) (y : X) → slice_get (xs ++ y ∷ []) (length xs) ≡ Some y
get_new [] y = refl
get_new (x ∷ xs) y = get_new xs y

find_kept : {X : Type 0} (p : X → Bool) (xs ys : List X) (x : X) → find p xs ≡ Some x
    → find p (xs ++ ys) ≡ Some x
find_kept p [] ys x e = absurd cc
find_kept {X = X} p (z ∷ xs) ys x e = go (p z) (λ h. find_kept p xs ys x h) e
  where
    go : (b : Bool) → (find p xs ≡ Some x → find p (xs ++ ys) ≡ Some x)
        → cond b (Some z) (find p xs) ≡ Some x → cond b (Some z) (find p (xs ++ ys)) ≡ Some x
    go true more h = h
    go false more h = more h

-- ---- each tree is below the next

abbrev Below : ℕ → List Table → Type 0
Below n ts = AllByRecursion (λ (t : Table). t.tree < n) ts

fold_up : (n : ℕ) (is : List Index) → n ≤ fold (λ m i. max m (i.tree + 1)) n is
fold_up n [] = omega arith
fold_up n (i ∷ is) = let h = fold_up (max n (i.tree + 1)) is in
    let l : n ≤ max n (i.tree + 1) = grind (arith, nat_tests) in omega (arith, h, l)

tables_up : (n : ℕ) (ts : List Table) → n ≤ fold (λ m t. max m (t.tree + 1)) n ts
tables_up n [] = omega arith
tables_up n (t ∷ ts) = let h = tables_up (max n (t.tree + 1)) ts in
    let l : n ≤ max n (t.tree + 1) = grind (arith, nat_tests) in omega (arith, h, l)

tables_below : (n top : ℕ) (ts : List Table) → fold (λ m t. max m (t.tree + 1)) n ts ≤ top
    → Below top ts
tables_below n top [] h = tt
tables_below n top (t ∷ ts) h =
    let up = tables_up (max n (t.tree + 1)) ts in
    let l : t.tree + 1 ≤ max n (t.tree + 1) = grind (arith, nat_tests) in
    (omega (arith, up, l, h), tables_below (max n (t.tree + 1)) top ts h)

pub all_below : (s : Schema) → Below (next_tree s) s.tables
all_below s = tables_below _ (next_tree s) s.tables (fold_up _ s.indexes)

same_nat : (n : ℕ) → (n == n) ≡ true
same_nat n = grind (arith, nat_tests)

find_new : (n : ℕ) (xs : List Table) (y : Table) → Below n xs → y.tree ≡ n
    → find (λ (u : Table). u.tree == n) (xs ++ y ∷ []) ≡ Some y
find_new n [] y below is = rw (is, same_nat n) refl
find_new n (x ∷ xs) y below is = rw (ne_eqb x.tree n (λ e. absurd (omega (arith, below.0, e))))
    (find_new n xs y below.1 is)

-- ---- the places

pub at_new : (s : Schema) (t : Table) → table_named s t.name ≡ None → same_name t.name t.name ≡ true
    → nat_le (2 ^ 31) (next_tree s) ≡ false
    → IsAt (created s t) t.name (record t { tree = next_tree s }) (length s.tables)
at_new s t free self low =
    let new : Table = record t { tree = next_tree s } in
    record {
      named = position_new (λ (u : Table). same_name u.name t.name) 0 s.tables new free self
          ∙ ap Some (omega arith);
      listed = get_new s.tables new;
      found = find_new (next_tree s) s.tables new (all_below s) refl;
      low = low;
    }

pub at_kept : (s : Schema) (t u : Table) (name : List ℕ) (at : ℕ) → IsAt s name u at
    → IsAt (created s t) name u at
at_kept s t u name at place = record {
  named = position_kept (λ (v : Table). same_name v.name name) 0 at s.tables _ place.named;
  listed = get_kept s.tables _ at u place.listed;
  found = find_kept (λ (v : Table). v.tree == u.tree) s.tables _ u place.found;
  low = place.low;
}

-- ---- foreign keys

key_tree : (t : Table) (o : Option (List ℕ)) (key : ParentKey)
    → option_and_then (key_in t) o ≡ Some key → key.0 ≡ t.tree
key_tree t None key e = absurd cc
key_tree t (Some places) key e = go (declared_order t places) e
  where
    go : (o : Option Order) → option_map (λ (x : Order). (t.tree, places, x)) o ≡ Some key
        → key.0 ≡ t.tree
    go None h = absurd cc
    go (Some x) h = let same : key ≡ (t.tree, places, x) = cc in ap (λ (k : ParentKey). k.0) same

-- a longer list finds what was found, or else the new table
found_by : (p : Table → Bool) (xs : List Table) (y u : Table) → find p (xs ++ y ∷ []) ≡ Some u
    → (find p xs ≡ Some u) ⊎ ((u ≡ y) × (p y ≡ true))
found_by p [] y u e = go (p y) refl e
  where
    go : (b : Bool) → p y ≡ b → cond b (Some y) None ≡ Some u
        → (◌≡◌ {A = Option Table} None (Some u)) ⊎ ((u ≡ y) × (p y ≡ true))
    go true is h = inr ((let same : u ≡ y = cc in same), is)
    go false is h = absurd cc
found_by p (x ∷ xs) y u e = go (p x) (λ h. found_by p xs y u h) e
  where
    go : (b : Bool) → (find p (xs ++ y ∷ []) ≡ Some u → (find p xs ≡ Some u)
        ⊎ ((u ≡ y) × (p y ≡ true))) → cond b (Some x) (find p (xs ++ y ∷ [])) ≡ Some u
        → (cond b (Some x) (find p xs) ≡ Some u) ⊎ ((u ≡ y) × (p y ≡ true))
    go true more h = inl h
    go false more h = more h

below_found : (n : ℕ) (p : Table → Bool) (xs : List Table) (u : Table) → Below n xs
    → find p xs ≡ Some u → u.tree < n
below_found n p [] u below e = absurd cc
below_found n p (x ∷ xs) u below e = go (p x) (λ h. below_found n p xs u below.1 h) e
  where
    go : (b : Bool) → (find p xs ≡ Some u → u.tree < n) → cond b (Some x) (find p xs) ≡ Some u
        → u.tree < n
    go true more h = let same : x ≡ u = cc in subst (λ (v : Table). v.tree < n) same below.0
    go false more h = more h

abbrev parent_of : Reference → Option Table → Option ParentKey
parent_of r o = option_and_then (λ t. option_and_then (key_in t) (key_places t r.parent_columns)) o

-- where the parent key comes from
parent_by : (r : Reference) (o : Option Table) (key : ParentKey) → parent_of r o ≡ Some key
    → (u : Table) × (o ≡ Some u) × (key.0 ≡ u.tree)
parent_by r None key e = absurd cc
parent_by r (Some u) key e = (u, refl, key_tree u (key_places u r.parent_columns) key e)

pub all_map : {X : Type 0} (P Q : X → Type 0) (xs : List X) → ((x : X) → P x → Q x)
    → AllByRecursion P xs → AllByRecursion Q xs
all_map P Q [] f h = tt
all_map P Q (x ∷ xs) f h = (f x h.0, all_map P Q xs f h.1)

pub all_last : {X : Type 0} (P : X → Type 0) (xs : List X) (y : X) → AllByRecursion P xs → P y
    → AllByRecursion P (xs ++ y ∷ [])
all_last P [] y h last = (last, tt)
all_last P (x ∷ xs) y h last = (h.0, all_last P xs y h.1 last)

own : (s : Schema) (tree : ℕ) (rs : List Reference) → AllByRecursion HasNoAction rs
    → AllByRecursion (Spares s tree) rs
own s tree rs h = all_map HasNoAction (Spares s tree) rs (λ r none. inl none) h

one_kept : (s : Schema) (t : Table) (tree : ℕ) → tree < next_tree s → (r : Reference)
    → Spares s tree r → Spares (created s t) tree r
one_kept s t tree low r (inl none) = inl none
one_kept s t tree low r (inr away) = inr (λ key e.
    let new : Table = record t { tree = next_tree s } in
    let p = λ (u : Table). same_name u.name r.parent in
    let from = parent_by r (find p (s.tables ++ new ∷ [])) key e in
    go key from.0 (found_by p s.tables new from.0 from.1) from.2
    (subst (λ o. parent_of r o ≡ Some key) from.1 e))
  where
    go : (key : ParentKey) (u : Table)
        → (find (λ (v : Table). same_name v.name r.parent) s.tables ≡ Some u)
        ⊎ ((u ≡ record t { tree = next_tree s }) × (same_name t.name r.parent ≡ true))
        → key.0 ≡ u.tree → parent_of r (Some u) ≡ Some key → key.0 ≢ tree
    go key u (inl old) is h same = away key (subst (λ o. parent_of r o ≡ Some key) (sym old) h) same
    go key u (inr new) is h same =
        absurd (omega (arith, low, is, same, ap (λ (v : Table). v.tree) new.0))

pub spared_kept : (s : Schema) (t : Table) (tree : ℕ) → tree < next_tree s
    → AllByRecursion HasNoAction t.references → IsSpared s tree → IsSpared (created s t) tree
spared_kept s t tree low none spared =
    all_last (λ (u : Table). AllByRecursion (Spares (created s t) tree) u.references) s.tables _
    (all_map _ (λ (u : Table). AllByRecursion (Spares (created s t) tree) u.references) s.tables
    (λ u h. all_map (Spares s tree) (Spares (created s t) tree) u.references (one_kept s t tree low)
    h) spared) (own (created s t) tree t.references none)

one_new : (s : Schema) (t : Table) (r : Reference) → HasNoAction r
    ⊎ (same_name t.name r.parent ≡ false) → Spares (created s t) (next_tree s) r
one_new s t r (inl none) = inl none
one_new s t r (inr other) = inr (λ key e.
    let new : Table = record t { tree = next_tree s } in
    let p = λ (u : Table). same_name u.name r.parent in
    let from = parent_by r (find p (s.tables ++ new ∷ [])) key e in
    go key from.0 (found_by p s.tables new from.0 from.1) from.2)
  where
    go : (key : ParentKey) (u : Table)
        → (find (λ (v : Table). same_name v.name r.parent) s.tables ≡ Some u)
        ⊎ ((u ≡ record t { tree = next_tree s }) × (same_name t.name r.parent ≡ true))
        → key.0 ≡ u.tree → key.0 ≢ next_tree s
    go key u (inl old) is same =
        absurd (omega (
          arith,
          is,
          same,
          below_found (next_tree s)
              (λ (v : Table). same_name v.name r.parent) s.tables u (all_below s) old,
        ))
    go key u (inr new) is same = absurd (let named = new.1 in cc)

pub spared_new : (s : Schema) (t : Table) → AllByRecursion HasNoAction t.references
    → IsUnnamed s t.name → IsSpared (created s t) (next_tree s)
spared_new s t none unnamed =
    all_last (λ (u : Table). AllByRecursion (Spares (created s t) (next_tree s)) u.references)
    s.tables _
    (all_map _ (λ (u : Table). AllByRecursion (Spares (created s t) (next_tree s)) u.references)
    s.tables (λ u h. all_map (λ r. HasNoAction r ⊎ (same_name t.name r.parent ≡ false))
    (Spares (created s t) (next_tree s)) u.references (one_new s t) h) unnamed)
    (own (created s t) (next_tree s) t.references none)

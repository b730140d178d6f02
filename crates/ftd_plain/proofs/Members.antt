-- What a list contains, and what an ordered map's entries are after one more.
use Rattle.std.proofs.Common.{◌≡◌, ◌≢◌, ◌⊎◌, inl, inr, ℕ, zero, suc, ◌<◌, ◌≤◌, ◌+◌, List, [], ◌∷◌}
use Rattle.std.proofs.Common.{◌++◌, length, take, get_or, Option, Some, None, Bool, true}
use Rattle.std.proofs.Common.{false, cond, refl, sym, ap, ◌∙◌, subst, arith, length-append}
use Rattle.std.proofs.Common.{Ordering, Less, Equal, Greater}
use Rattle.std.specs.Prelude.{Contains, AllPairs, nat_lt, ◌==◌}
use Rattle.std.specs.List.{AllByRecursion, flat_map}
use Rattle.std.proofs.lemmas.List.{append-nil, take_more}
use Rattle.std.proofs.lemmas.List.Concat.{flat_map-append}
use Rattle.std.specs.List.Sorted.{IsStrictlySortedBy}
use Rattle.std.proofs.lemmas.Map.Keys.{sorted_head, sorted_tail}
use Rattle.std.specs.Map.{lookup, keys_of}
use Rattle.std.specs.BTreeMap.{is_at, insert_entry}
use Rattle.std.specs.Ordering.{nat_cmp, is_eq, match_ordering}
use Rattle.std.proofs.lemmas.Map.Lookups.{exact_unsigned}
use Rattle.std.proofs.lemmas.Bool.{false≢true}
use Rattle.std.proofs.lemmas.Bool.Decides.{nat_tests}
use Rattle.std.proofs.lemmas.Option.{same_Some}
use Rattle.ftd_rules.specs.Lists.{Has}

-- ---- two words for membership
contains_from : {X : Type 0} (xs : List X) (x : X) (k : ℕ) → k < length xs → get_or xs k x ≡ x
    → Has xs x
contains_from [] x k l e = absurd (omega arith)
contains_from (y ∷ ys) x zero l e = inl (sym e)
contains_from (y ∷ ys) x (suc k) l e = inr (contains_from ys x k (omega arith) e)

pub has_from_contains : {X : Type 0} (xs : List X) (x : X) → Contains xs x → Has xs x
has_from_contains xs x c = contains_from xs x c.0 c.1 c.2

pub contains_from_has : {X : Type 0} (xs : List X) (x : X) → Has xs x → Contains xs x
contains_from_has [] x h = absurd h
contains_from_has (y ∷ ys) x (inl e) = (0, omega arith, sym e)
contains_from_has (y ∷ ys) x (inr h) = let (k, l, e) = contains_from_has ys x h in
    (suc k, omega arith, e)

-- ---- entries
equal_keys : (a b : ℕ) (o : Ordering) → nat_cmp a b ≡ o → is_eq o ≡ true → a ≡ b
equal_keys a b Less e h = cc h
equal_keys a b Equal e h = exact_unsigned a b e
equal_keys a b Greater e h = cc h

found_or_later : {X : Type 0} (key : ℕ) (v : X) (e : ℕ × X) (es : List (ℕ × X)) (b : Bool)
    → is_at (nat_cmp key) e.0 ≡ b → cond b (Some e.1) (lookup (is_at (nat_cmp key)) es) ≡ Some v
    → (lookup (is_at (nat_cmp key)) es ≡ Some v → Has es (key, v)) → Has (e ∷ es) (key, v)
found_or_later key v e es true at f later =
    let same = equal_keys key e.0 (nat_cmp key e.0) refl at in
    let value = same_Some e.1 v f in
    inl (rw (same, ← value) refl)
found_or_later key v e es false at f later = inr (later f)

-- what a look-up finds is there
pub lookup_has : {X : Type 0} (key : ℕ) (v : X) (es : List (ℕ × X))
    → lookup (is_at (nat_cmp key)) es ≡ Some v → Has es (key, v)
lookup_has key v [] f = cc f
lookup_has key v (e ∷ es) f = found_or_later key v e es (is_at (nat_cmp key) e.0) refl f
    (λ g. lookup_has key v es g)

-- where a look-up finds nothing, no entry has the key
lookup_none_of : {X : Type 0} (key : ℕ) (e : ℕ × X) (found : Option X) (b : Bool)
    → is_at (nat_cmp key) e.0 ≡ b → cond b (Some e.1) found ≡ None → (e.0 ≢ key) × (found ≡ None)
lookup_none_of key e found true at f = cc f
lookup_none_of key e found false at f = (λ same. apart key e.0 same at, f)
  where
    here : (key : ℕ) → is_at (nat_cmp key) key ≡ true
    here key = grind (arith, nat_tests)

    apart : (key k : ℕ) → k ≡ key → is_at (nat_cmp key) k ≡ false → ⊥
    apart key k same not = false≢true (sym not ∙ (rw same (here key)))

pub lookup_apart : {X : Type 0} (key : ℕ) (es : List (ℕ × X)) (x : ℕ × X)
    → lookup (is_at (nat_cmp key)) es ≡ None → Has es x → x.0 ≢ key
lookup_apart key [] x f h = absurd h
lookup_apart key (e ∷ es) x f h =
    let parts = lookup_none_of key e (lookup (is_at (nat_cmp key)) es) (is_at (nat_cmp key) e.0)
    refl f in
    elim h [
      | inl same ↦ (λ k. parts.0 (ap (λ z. z.0) (sym same) ∙ k))
      | inr later ↦ lookup_apart key es x parts.1 later
    ]

-- the entries with one more at a new key
pub record Adds {X : Type 0} (old : List (ℕ × X)) (e : ℕ × X) (new : List (ℕ × X)) : Type 0 where
  pub there : Has new e
  pub kept : (x : ℕ × X) → Has old x → Has new x
  pub only : (x : ℕ × X) → Has new x → Has old x ⊎ (x ≡ e)
  pub long : length new ≡ length old + 1

adds_here : {X : Type 0} (key : ℕ) (v : X) (e : ℕ × X) (es : List (ℕ × X)) (o : Ordering)
    → nat_cmp key e.0 ≡ o → e.0 ≢ key → Adds es (key, v) (insert_entry nat_cmp es key v)
    → Adds (e ∷ es) (key, v) (match_ordering o ((key, v) ∷ e ∷ es) ((e.0, v) ∷ es)
    (e ∷ insert_entry nat_cmp es key v))
adds_here key v e es Less c apart more = record {
  there = inl refl;
  kept = λ x h. inr h;
  only = λ x h. elim h [ inl same ↦ inr same | inr old ↦ inl old ];
  long = omega arith;
}
adds_here key v e es Equal c apart more = absurd (apart (sym (equal_keys key e.0 Equal c refl)))
adds_here key v e es Greater c apart more = record {
  there = inr more.there;
  kept = λ x h. elim h [ inl same ↦ inl same | inr old ↦ inr (more.kept x old) ];
  only = λ x h. elim h [
    | inl same ↦ inl (inl same)
    | inr new ↦ elim (more.only x new) [ inl old ↦ inl (inr old) | inr same ↦ inr same ]
  ];
  long = let m = more.long in omega arith;
}

pub insert_adds : {X : Type 0} (key : ℕ) (v : X) (es : List (ℕ × X))
    → lookup (is_at (nat_cmp key)) es ≡ None → Adds es (key, v) (insert_entry nat_cmp es key v)
insert_adds key v [] f = record {
  there = inl refl;
  kept = λ x h. absurd h;
  only = λ x h. elim h [ inl same ↦ inr same | inr none ↦ absurd none ];
  long = omega arith;
}
insert_adds key v (e ∷ es) f =
    let parts = lookup_none_of key e (lookup (is_at (nat_cmp key)) es) (is_at (nat_cmp key) e.0)
    refl f in
    adds_here key v e es (nat_cmp key e.0) refl parts.0 (insert_adds key v es parts.1)

less_is : (a b : ℕ) (less same : Bool) → nat_lt a b ≡ less → (a == b) ≡ same
    → cond less Less (cond same Equal Greater) ≡ Less → a < b
less_is a b true same e f h = grind (arith, nat_tests)
less_is a b false true e f h = cc h
less_is a b false false e f h = cc h

each_later : {X : Type 0} (P : ℕ → Type 0) (es : List (ℕ × X)) (x : ℕ × X)
    → AllByRecursion P (keys_of es) → Has es x → P x.0
each_later P [] x h there = absurd there
each_later {X = X} P (e ∷ es) x h (inl same) = subst (λ (z : ℕ × X). P z.0) (sym same) h.0
each_later P (e ∷ es) x h (inr later) = each_later P es x h.1 later

-- in rising entries a look-up finds what is there
pub lookup_rising : {X : Type 0} (es : List (ℕ × X)) (x : ℕ × X) → IsStrictlySortedBy nat_cmp
    (keys_of es) → Has es x → lookup (is_at (nat_cmp x.0)) es ≡ Some x.1
lookup_rising [] x sorted there = absurd there
lookup_rising (e ∷ es) x sorted (inl same) =
    let at : is_at (nat_cmp x.0) x.0 ≡ true = grind (arith, nat_tests) in
    let here : is_at (nat_cmp x.0) e.0 ≡ true = ap (λ z. is_at (nat_cmp x.0) z.0) (sym same) ∙ at in
    rw here (ap (λ z. Some z.1) (sym same))
lookup_rising (e ∷ es) x sorted (inr later) =
    let less = each_later (λ y. nat_cmp e.0 y ≡ Less) es x
    (sorted_head nat_cmp e.0 (keys_of es) sorted) later in
    let below : e.0 < x.0 = less_is e.0 x.0 (nat_lt e.0 x.0) (e.0 == x.0) refl refl less in
    let apart : is_at (nat_cmp x.0) e.0 ≡ false = grind (arith, nat_tests) in
    rw apart (lookup_rising es x (sorted_tail nat_cmp e.0 (keys_of es) sorted) later)

-- ---- how many there are
pub record Cuts {X : Type 0} (xs : List X) (x : X) : Type 0 where
  pub front : List X
  pub back : List X
  pub parts : xs ≡ front ++ x ∷ back

cut_at : {X : Type 0} (xs : List X) (x : X) → Has xs x → Cuts xs x
cut_at [] x h = absurd h
cut_at (y ∷ xs) x (inl e) = record { front = []; back = xs; parts = rw e refl }
cut_at (y ∷ xs) x (inr h) = let more = cut_at xs x h in
    record { front = y ∷ more.front; back = more.back; parts = ap (λ zs. y ∷ zs) more.parts }

has_other : {X : Type 0} (front back : List X) (x y : X) → Has (front ++ x ∷ back) y → y ≢ x
    → Has (front ++ back) y
has_other [] back x y (inl e) n = absurd (n e)
has_other [] back x y (inr h) n = h
has_other (z ∷ front) back x y (inl e) n = inl e
has_other (z ∷ front) back x y (inr h) n = inr (has_other front back x y h n)

-- no element comes again
abbrev pub ComesOnce : {X : Type 0} → List X → Type 0
ComesOnce [] = Unit {0}
ComesOnce (x ∷ xs) = (Has xs x → ⊥) × ComesOnce xs

-- a list of which no element comes again is no longer than one that has all its elements
pub no_longer : {X : Type 0} (xs ys : List X) → ComesOnce xs → ((x : X) → Has xs x → Has ys x)
    → length xs ≤ length ys
no_longer [] ys once all = omega arith
no_longer {X = X} (x ∷ xs) ys once all =
    let cut = cut_at ys x (all x (inl refl)) in
    let others = λ (y : X) (h : Has xs y). has_other cut.front cut.back x y
    (rw cut.parts at (all y (inr h))) (λ same. once.0 (rw same at h)) in
    let rest = no_longer xs (cut.front ++ cut.back) once.1 others in
    let long = ap length cut.parts in
    let whole = length-append cut.front (x ∷ cut.back) in
    let less = length-append cut.front cut.back in
    omega arith

pair_later : {X : Type 0} (R : X → X → Type 0) (x : X) (xs : List X) (y : X) → AllPairs R (x ∷ xs)
    → Has xs y → R x y
pair_later R x xs y pairs h =
    let (k, within, is) = contains_from_has xs y h in
    subst (λ z. R x z) is (pairs 0 (suc k) y (omega arith) (omega arith))

pairs_tail : {X : Type 0} (R : X → X → Type 0) (x : X) (xs : List X) → AllPairs R (x ∷ xs)
    → AllPairs R xs
pairs_tail R x xs pairs i j d before within = pairs (suc i) (suc j) d (omega arith) (omega arith)

-- elements that differ in something come once
pub comes_once : {X : Type 0} (f : X → ℕ) (xs : List X) → AllPairs (λ a b. f a ≢ f b) xs
    → ComesOnce xs
comes_once f [] pairs = tt
comes_once f (x ∷ xs) pairs = (
  (λ h. pair_later (λ a b. f a ≢ f b) x xs x pairs h refl),
  comes_once f xs (pairs_tail (λ a b. f a ≢ f b) x xs pairs),
)

-- ---- one more row of a text
pub flat_map_next : {X A : Type 0} (f : X → List A) (rows : List X) (i : ℕ) (row : X)
    (text new : List A) → i < length rows → row ≡ get_or rows i row
    → text ≡ flat_map f (take i rows) → new ≡ text ++ f row
    → new ≡ flat_map f (take (i + 1) rows)
flat_map_next f rows i row text new within is so_far added =
    added ∙ ap (λ t. t ++ f row) so_far ∙ ap (λ r. flat_map f (take i rows) ++ f r) is
    ∙ ap (λ line. flat_map f (take i rows) ++ line) (sym (append-nil (f (get_or rows i row))))
    ∙ sym (ap (flat_map f) (take_more rows i row within) ∙ flat_map-append f (take i rows)
    (get_or rows i row ∷ []))

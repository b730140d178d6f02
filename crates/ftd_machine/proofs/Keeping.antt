-- What is kept stays: no request takes an entry back.
use Rattle.std.proofs.Common.{◌≡◌, ◌∙◌, refl, ap, subst, ℕ, ◌==◌, Bool, true, false, cond, List, []}
use Rattle.std.proofs.Common.{◌∷◌, ◌++◌, filter, Option, None, Some, bytes_eq}
use Rattle.std.specs.Prelude.{find, option_map, is_some}
use Rattle.std.specs.Option.{option_or}
use Rattle.std.proofs.lemmas.Bool.{eq-eqb}
use Rattle.std.proofs.lemmas.List.Elements.{filter-append}
use Rattle.std.proofs.lemmas.List.Folds.{find-append}
use Rattle.std.proofs.lemmas.Option.{same_Some}
use Rattle.ftd_days.specs.Holidays.{YearDays}
use Rattle.ftd_rules.specs.declared.run.Voidable.{Voidable}
use Rattle.ftd_machine.specs.State.{Entry, is_of, has_key, content_of, kept_at}
use Rattle.ftd_machine.specs.Step.{with_entry, with_voided, voided_if, is_under, as_voided}
use Rattle.ftd_machine.proofs.Adding.{entry_own}

-- ---- under a key

or_kept : {X Y : Type 0} (f : X → Y) (o p : Option X) (y : Y) → option_map f o ≡ Some y
    → option_map f (option_or o p) ≡ Some y
or_kept f (Some e) p y is = is
or_kept f None p y is = absurd cc

or_none : {X Y : Type 0} (f : X → Y) (o p : Option X) → option_map f o ≡ None
    → option_map f (option_or o p) ≡ option_map f p
or_none f (Some e) p is = absurd cc
or_none f None p is = refl

-- what is found first is found first where more comes after it
pub found_append : {X Y : Type 0} (f : X → Y) (test : X → Bool) (xs ys : List X) (y : Y)
    → option_map f (find test xs) ≡ Some y
    → option_map f (find test (xs ++ ys)) ≡ Some y
found_append f test xs ys y is = ap (option_map f) (find-append test xs ys)
    ∙ or_kept f (find test xs) (find test ys) y is

-- and else what is added is found
pub found_last : {X Y : Type 0} (f : X → Y) (test : X → Bool) (xs : List X) (x : X) → test x ≡ true
    → option_map f (find test xs) ≡ None
    → option_map f (find test (xs ++ x ∷ [])) ≡ Some (f x)
found_last f test xs x e none =
    ap (option_map f) (find-append test xs _) ∙ or_none f (find test xs) _ none ∙ (rw e refl)

abbrev pub is_year : ℕ → YearDays → Bool
is_year year g = g.year == year

pub same_key : (key : ℕ) → (key == key) ≡ true
same_key key = eq-eqb key key refl

-- an entry more is what is kept under its key, unless something was
pub kept_own : {X : Type 0} (xs : List (Entry X)) (name : List ℕ) (key : ℕ) (content : X)
    → kept_at key (filter (is_of name) xs) ≡ None
    → kept_at key (filter (is_of name) (with_entry xs name key content)) ≡ Some content
kept_own xs name key content none =
    ap (kept_at key) (entry_own xs name key content) ∙ found_last content_of (has_key key)
    (filter (is_of name) xs) _ (same_key key) none

some_or : {X : Type 0} (o : Option (Entry X)) (e : Entry X)
    → is_some (option_map content_of (option_or o (Some e))) ≡ true
some_or (Some x) e = refl
some_or None e = refl

-- so something is kept there
pub kept_some : {X : Type 0} (xs : List (Entry X)) (name : List ℕ) (key : ℕ) (content : X)
    → is_some (kept_at key (filter (is_of name) (with_entry xs name key content))) ≡ true
kept_some xs name key content =
    ap (λ ys. is_some (kept_at key ys)) (entry_own xs name key content)
    ∙ ap (λ o. is_some (option_map content_of o))
    (find-append (has_key key) (filter (is_of name) xs) _)
    ∙ (rw (same_key key) (some_or (find (has_key key) (filter (is_of name) xs)) _))

-- ---- of each account

abbrev pub Keeps : {X : Type 0} → List (Entry X) → List (Entry X) → Type 0
Keeps {X = X} xs ys = (name : List ℕ) (key : ℕ) (content : X) → kept_at key (filter (is_of name) xs)
    ≡ Some content
    → kept_at key (filter (is_of name) ys) ≡ Some content

pub keeps_entry : {X : Type 0} (xs : List (Entry X)) (own : List ℕ) (number : ℕ) (more : X)
    → Keeps xs (with_entry xs own number more)
keeps_entry xs own number more name key content is =
    ap (kept_at key) (filter-append (is_of name) xs _) ∙ found_append content_of (has_key key)
    (filter (is_of name) xs) _ content is

-- a run or a payment stays under its number, with its content, and stays voided
abbrev pub IsStill : {X : Type 0} → Voidable X → Voidable X → Type 0
IsStill v w = (w.value ≡ v.value) × (v.voided ≡ true → w.voided ≡ true)

abbrev pub KeepsVoidable : {X : Type 0} → List (Entry (Voidable X)) → List (Entry (Voidable X))
    → Type 0
KeepsVoidable {X = X} xs ys = (name : List ℕ) (key : ℕ) (v : Voidable X)
    → kept_at key (filter (is_of name) xs) ≡ Some v
    → (w : Voidable X) × (kept_at key (filter (is_of name) ys) ≡ Some w) × IsStill v w

pub keeps_same : {X : Type 0} (xs : List (Entry (Voidable X))) → KeepsVoidable xs xs
keeps_same xs name key v is = (v, is, (refl, λ e. e))

pub keeps_more : {X : Type 0} (xs : List (Entry (Voidable X))) (own : List ℕ) (number : ℕ)
    (more : Voidable X) → KeepsVoidable xs (with_entry xs own number more)
keeps_more xs own number more name key v is = (
  v,
  keeps_entry xs own number more name key v is,
  (refl, λ e. e),
)

-- what is under the name and the key is voided
void_content : {X : Type 0} (under : Bool) (v : Voidable X) → IsStill v (cond under (as_voided v) v)
void_content true v = (refl, λ e. refl)
void_content false v = (refl, λ e. e)

found_still : {X : Type 0} (own : List ℕ) (number : ℕ) (e : Entry (Voidable X))
    (o p : Option (Entry (Voidable X))) (v : Voidable X) (found : Bool)
    → option_map content_of (cond found (Some e) o) ≡ Some v
    → (option_map content_of o ≡ Some v → (w : Voidable X) × (option_map content_of p ≡ Some w)
    × IsStill v w)
    → (w : Voidable X) × (option_map content_of (cond found (Some (voided_if own number e)) p)
    ≡ Some w) × IsStill v w
found_still own number e o p v true is later =
    let w = (voided_if own number e).content in (
      w,
      refl,
      subst (λ u. IsStill u w) (same_Some e.content v is)
          (void_content (is_under own number e) e.content),
    )
found_still own number e o p v false is later = later is

still_step : {X : Type 0} (own : List ℕ) (number key : ℕ) (e : Entry (Voidable X))
    (xs ys : List (Entry (Voidable X))) (v : Voidable X) (mine : Bool)
    → kept_at key (cond mine (e ∷ xs) xs) ≡ Some v
    → (kept_at key xs ≡ Some v → (w : Voidable X) × (kept_at key ys ≡ Some w) × IsStill v w)
    → (w : Voidable X) × (kept_at key (cond mine (voided_if own number e ∷ ys) ys) ≡ Some w)
    × IsStill v w
still_step own number key e xs ys v true is later =
    found_still own number e (find (has_key key) xs) (find (has_key key) ys) v
    (e.key == key) is later
still_step own number key e xs ys v false is later = later is

pub keeps_voided : {X : Type 0} (xs : List (Entry (Voidable X))) (own : List ℕ) (number : ℕ)
    → KeepsVoidable xs (with_voided xs own number)
keeps_voided [] own number name key v is = absurd cc
keeps_voided (e ∷ xs) own number name key v is =
    still_step own number key e (filter (is_of name) xs)
    (filter (is_of name) (with_voided xs own number)) v (bytes_eq e.name name) is
    (keeps_voided xs own number name key v)

-- what is voided of the account is voided
abbrev pub IsVoidAt : {X : Type 0} → ℕ → List (Entry (Voidable X)) → Type 0
IsVoidAt {X = X} key xs = (w : Voidable X) × (kept_at key xs ≡ Some w) × (w.voided ≡ true)

void_found : {X : Type 0} (name : List ℕ) (key : ℕ) (e : Entry (Voidable X))
    (o : Option (Entry (Voidable X))) (ys : List (Entry (Voidable X))) (v : Voidable X)
    (found : Bool)
    → bytes_eq e.name name ≡ true → (e.key == key) ≡ found
    → option_map content_of (cond found (Some e) o) ≡ Some v
    → (option_map content_of o ≡ Some v → IsVoidAt key ys)
    → IsVoidAt key (voided_if name key e ∷ ys)
void_found name key e o ys v true mine here is later =
    (as_voided e.content, rw (here, mine) refl, refl)
void_found name key e o ys v false mine here is later =
    let rest = later is in (rest.0, rw here rest.1, rest.2)

void_step : {X : Type 0} (name : List ℕ) (key : ℕ) (e : Entry (Voidable X))
    (xs ys : List (Entry (Voidable X))) (v : Voidable X) (mine : Bool)
    → bytes_eq e.name name ≡ mine → kept_at key (cond mine (e ∷ xs) xs) ≡ Some v
    → (kept_at key xs ≡ Some v → IsVoidAt key ys)
    → IsVoidAt key (cond mine (voided_if name key e ∷ ys) ys)
void_step name key e xs ys v true is_mine is later =
    void_found name key e (find (has_key key) xs) ys v (e.key == key) is_mine refl is later
void_step name key e xs ys v false is_mine is later = later is

pub voided_kept : {X : Type 0} (xs : List (Entry (Voidable X))) (name : List ℕ) (key : ℕ)
    (v : Voidable X)
    → kept_at key (filter (is_of name) xs) ≡ Some v
    → IsVoidAt key (filter (is_of name) (with_voided xs name key))
voided_kept [] name key v is = absurd cc
voided_kept (e ∷ xs) name key v is =
    void_step name key e (filter (is_of name) xs) (filter (is_of name) (with_voided xs name key)) v
    (bytes_eq e.name name) refl is
    (voided_kept xs name key v)

-- What is found in a list follows from its members.
use Rattle.std.proofs.Common.{◌≡◌, ◌∙◌, inl, inr, refl, sym, ap, ℕ, Bool, true, List}
use Rattle.std.proofs.Common.{[], ◌∷◌, ◌++◌, map, filter, Option, None, Some}
use Rattle.std.specs.Prelude.{find, option_map, is_some}
use Rattle.std.proofs.lemmas.Bool.{cases_Bool, eqb-true, true≢false}
use Rattle.ftd_days.proofs.Spelling.{same_text}
use Rattle.ftd_rules.specs.Lists.{Has}
use Rattle.ftd_rules.proofs.Owed.{has_right}
use Rattle.ftd_machine.specs.Sound.{AreDistinct}
use Rattle.ftd_machine.specs.State.{Entry, is_of, has_key, content_of, kept_at, all_at}
use Rattle.ftd_machine.proofs.Members.{found_none, found_some, has_filtered}

-- what stands in the middle
pub has_here : {X : Type 0} (xs : List X) (x : X) (rest : List X) → Has (xs ++ x ∷ rest) x
has_here xs x rest = has_right xs (x ∷ rest) x (inl refl)

-- ---- keys that differ

-- what stands before one has another key
pub not_before : {X K : Type 0} (key : X → K) (xs : List X) (e : X) (es : List X)
    → AreDistinct key (xs ++ e ∷ es) → (x : X) → Has xs x → key x ≡ key e → ⊥
not_before key [] e es apart x has same = has
not_before key (z ∷ xs) e es apart x (inl is) same =
    apart.0 e (has_right xs (e ∷ es) e (inl refl)) (sym same ∙ ap key is)
not_before key (z ∷ xs) e es apart x (inr has) same = not_before key xs e es apart.1 x has same

pub filter_apart : {X K : Type 0} (key : X → K) (test : X → Bool) (xs : List X)
    → AreDistinct key xs → AreDistinct key (filter test xs)
filter_apart key test [] apart = tt
filter_apart key test (x ∷ xs) apart =
    let rest = filter_apart key test xs apart.1 in
    elim (cases_Bool (test x)) [
      | inl kept ↦ rw kept ((λ y has. apart.0 y (has_filtered test xs y has).0), rest)
      | inr left ↦ rw left rest
    ]

-- ---- all pass, or none

pub filter_all : {X : Type 0} (test : X → Bool) (xs : List X)
    → ((x : X) → Has xs x → test x ≡ true) → filter test xs ≡ xs
filter_all test [] all = refl
filter_all test (x ∷ xs) all =
    rw (all x (inl refl)) (ap (λ ys. x ∷ ys) (filter_all test xs (λ y has. all y (inr has))))

pub filter_none : {X : Type 0} (test : X → Bool) (xs : List X)
    → ((x : X) → Has xs x → test x ≡ true → ⊥) → filter test xs ≡ []
filter_none test [] none = refl
filter_none test (x ∷ xs) none = elim (cases_Bool (test x)) [
  | inl kept ↦ absurd (none x (inl refl) kept)
  | inr left ↦ rw left (filter_none test xs (λ y has. none y (inr has)))
]

-- ---- the first that passes

pub find_none : {X : Type 0} (test : X → Bool) (xs : List X)
    → ((x : X) → Has xs x → test x ≡ true → ⊥) → find test xs ≡ None
find_none test [] none = refl
find_none test (x ∷ xs) none = elim (cases_Bool (test x)) [
  | inl here ↦ absurd (none x (inl refl) here)
  | inr off ↦ rw off (find_none test xs (λ y has. none y (inr has)))
]

-- where one passes, one is found
pub find_there : {X Y : Type 0} (f : X → Y) (test : X → Bool) (xs : List X) (x : X) → Has xs x
    → test x ≡ true → is_some (option_map f (find test xs)) ≡ true
find_there f test [] x has is = absurd has
find_there f test (z ∷ xs) x has is = elim (cases_Bool (test z)) [
  | inl here ↦ rw here refl
  | inr off ↦ rw off (elim has [
    | inl same ↦ absurd (true≢false (sym is ∙ ap test same ∙ off))
    | inr later ↦ find_there f test xs x later is
  ])
]

-- where those that pass have one key, which stands once, that one is found
pub find_one : {X K : Type 0} (test : X → Bool) (key : X → K) (xs : List X) (e : X)
    → AreDistinct key xs → Has xs e → test e ≡ true
    → ((x : X) → Has xs x → test x ≡ true → key e ≡ key x) → find test xs ≡ Some e
find_one test key [] e apart has is one = absurd has
find_one test key (z ∷ xs) e apart has is one = elim (cases_Bool (test z)) [
  | inl here ↦ rw here (elim has [
    | inl same ↦ ap Some (sym same)
    | inr later ↦ absurd (apart.0 e later (one z (inl refl) here))
  ])
  | inr off ↦ rw off (elim has [
    | inl same ↦ absurd (true≢false (sym is ∙ ap test same ∙ off))
    | inr later ↦ find_one test key xs e apart.1 later is (λ x there. one x (inr there))
  ])
]

-- so the same is found in two lists with the same members
module _ {X K : Type 0} (test : X → Bool) (key : X → K) (xs ys : List X)
    (apart : AreDistinct key xs) (others : AreDistinct key ys)
    (one : (x y : X) → Has xs x → Has xs y → test x ≡ true → test y ≡ true → key x ≡ key y)
    (to : (x : X) → Has xs x → Has ys x) (from : (x : X) → Has ys x → Has xs x) where
  found_as : (o : Option X) → find test xs ≡ o → find test ys ≡ find test xs
  found_as None e =
      find_none test ys (λ y has is.
      found_none (λ (x : X). x) test xs (ap (option_map (λ (x : X). x)) e) y (from y has) is)
      ∙ sym e
  found_as (Some x) e =
      let d = found_some (λ (z : X). z) test xs x (ap (option_map (λ (z : X). z)) e) in
      find_one test key ys d.0 others (to d.0 d.1) d.2
      (λ z has is. one d.0 z d.1 (from z has) d.2 is)
      ∙ sym (find_one test key xs d.0 apart d.1 d.2 (λ z has is. one d.0 z d.1 has d.2 is))

  pub find_same : find test ys ≡ find test xs
  find_same = found_as (find test xs) refl

-- ---- entries under a name and a key

-- none of the entries stands there
abbrev pub IsAbsent : {X : Type 0} → List (Entry X) → List ℕ → ℕ → Type 0
IsAbsent {X = X} xs name key = (d : Entry X) → Has xs d → d.name ≡ name → d.key ≡ key → ⊥

own_absent : {X : Type 0} (xs : List (Entry X)) (name : List ℕ) (key : ℕ) → IsAbsent xs name key
    → (x : Entry X) → Has (filter (is_of name) xs) x → has_key key x ≡ true → ⊥
own_absent xs name key none x has is =
    let there = has_filtered (is_of name) xs x has in
    none x there.0 (same_text x.name name there.1) (eqb-true x.key key is)

pub absent_kept : {X : Type 0} (xs : List (Entry X)) (name : List ℕ) (key : ℕ)
    → IsAbsent xs name key → kept_at key (filter (is_of name) xs) ≡ None
absent_kept xs name key none =
    ap (option_map content_of)
    (find_none (has_key key) (filter (is_of name) xs) (own_absent xs name key none))

pub absent_all : {X : Type 0} (xs : List (Entry X)) (name : List ℕ) (key : ℕ)
    → IsAbsent xs name key → all_at key (filter (is_of name) xs) ≡ []
absent_all {X} xs name key none =
    ap (λ (ys : List (Entry X)). map content_of ys)
    (filter_none (has_key key) (filter (is_of name) xs) (own_absent xs name key none))

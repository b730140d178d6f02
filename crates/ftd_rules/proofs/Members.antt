-- Members of lists that are appended, mapped, filtered and tested.
use Rattle.std.proofs.Common.{◌≡◌, ◌∙◌, ◌+◌, ◌⊎◌, inl, inr, refl, sym, ap, subst, ℕ, Bool, true}
use Rattle.std.proofs.Common.{false, cond, ◌||◌, List, [], ◌∷◌, ◌++◌, map, arith}
use Rattle.std.specs.Prelude.{filter}
use Rattle.std.specs.List.{sum_by, list_any}
use Rattle.std.proofs.lemmas.Bool.{cases_Bool, true≢false}
use Rattle.std.proofs.lemmas.List.Sums.{sum_by-cons}
use Rattle.ftd_rules.specs.Lists.{Has}

-- ---- one more at the end

pub has_last : {X : Type 0} (xs : List X) (y x : X) → Has (xs ++ y ∷ []) x → Has xs x ⊎ (x ≡ y)
has_last [] y x (inl is) = inr is
has_last [] y x (inr none) = absurd none
has_last (z ∷ xs) y x (inl is) = inl (inl is)
has_last (z ∷ xs) y x (inr has) = elim (has_last xs y x has) [
  | inl there ↦ inl (inr there)
  | inr is ↦ inr is
]

pub has_before : {X : Type 0} (xs : List X) (y x : X) → Has xs x → Has (xs ++ y ∷ []) x
has_before [] y x has = absurd has
has_before (z ∷ xs) y x (inl is) = inl is
has_before (z ∷ xs) y x (inr has) = inr (has_before xs y x has)

pub has_end : {X : Type 0} (xs : List X) (y : X) → Has (xs ++ y ∷ []) y
has_end [] y = inl refl
has_end (z ∷ xs) y = inr (has_end xs y)

-- ---- mapped

pub mapped_has : {X Y : Type 0} (f : X → Y) (xs : List X) (x : X) → Has xs x → Has (map f xs) (f x)
mapped_has f [] x has = absurd has
mapped_has f (z ∷ xs) x (inl is) = inl (ap f is)
mapped_has f (z ∷ xs) x (inr has) = inr (mapped_has f xs x has)

pub has_mapped : {X Y : Type 0} (f : X → Y) (xs : List X) (y : Y) → Has (map f xs) y
    → (x : X) × Has xs x × (y ≡ f x)
has_mapped f [] y has = absurd has
has_mapped f (z ∷ xs) y (inl is) = (z, inl refl, is)
has_mapped f (z ∷ xs) y (inr has) = let rest = has_mapped f xs y has in (rest.0, inr rest.1, rest.2)

-- ---- filtered

pub filter_in : {X : Type 0} (test : X → Bool) (x : X) (xs : List X) → test x ≡ true
    → filter test (x ∷ xs) ≡ x ∷ filter test xs
filter_in test x xs passes = rw passes refl

pub filter_out : {X : Type 0} (test : X → Bool) (x : X) (xs : List X) → test x ≡ false
    → filter test (x ∷ xs) ≡ filter test xs
filter_out test x xs fails = rw fails refl

-- a member that meets the test is kept
pub has_kept : {X : Type 0} (test : X → Bool) (xs : List X) (x : X) → Has xs x → test x ≡ true
    → Has (filter test xs) x
has_kept test [] x has passes = absurd has
has_kept {X = X} test (y ∷ xs) x (inl is) passes = subst (λ (ys : List X). Has ys x)
    (sym (filter_in test y xs (sym (ap test is) ∙ passes))) (inl is)
has_kept {X = X} test (y ∷ xs) x (inr has) passes =
    elim (cases_Bool (test y)) [
      | inl kept ↦ subst (λ (ys : List X). Has ys x) (sym (filter_in test y xs kept))
          (inr (has_kept test xs x has passes))
      | inr left ↦ subst (λ (ys : List X). Has ys x) (sym (filter_out test y xs left))
          (has_kept test xs x has passes)
    ]

-- what one more member adds to a sum
pub kept_sum : {X : Type 0} (test : X → Bool) (f : X → ℕ) (x : X) (xs : List X)
    → sum_by f (filter test (x ∷ xs)) ≡ cond (test x) (f x) 0 + sum_by f (filter test xs)
kept_sum test f x xs = elim (cases_Bool (test x)) [
  | inl kept ↦ rw kept (sum_by-cons f x (filter test xs))
  | inr left ↦ rw left (omega arith)
]

-- ---- tested

-- where some pass, there is one
pub some_pass : {X : Type 0} (test : X → Bool) (xs : List X) → list_any test xs ≡ true
    → (x : X) × Has xs x × (test x ≡ true)
some_pass test [] is = absurd (true≢false (sym is))
some_pass {X = X} test (y ∷ xs) is = step (test y) refl is (some_pass test xs)
  where
    step : (b : Bool) → test y ≡ b → (b || list_any test xs) ≡ true
        → (list_any test xs ≡ true → (x : X) × Has xs x × (test x ≡ true))
        → (x : X) × Has (y ∷ xs) x × (test x ≡ true)
    step true passes is more = (y, inl refl, passes)
    step false fails is more = let later = more is in (later.0, inr later.1, later.2)

-- where one passes, some do
pub any_has : {X : Type 0} (p : X → Bool) (xs : List X) (x : X) → Has xs x → p x ≡ true
    → list_any p xs ≡ true
any_has p [] x has e = absurd has
any_has p (y ∷ xs) x (inl is) e = let same = ap p (sym is) ∙ e in rw same refl
any_has p (y ∷ xs) x (inr has) e =
    let rest = any_has p xs x has e in or_true (p y) (list_any p xs) rest
  where
    or_true : (a b : Bool) → b ≡ true → (a || b) ≡ true
    or_true true b e = refl
    or_true false b e = e

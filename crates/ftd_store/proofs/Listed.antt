-- What a reading in order lists.
use Rattle.std.proofs.Common.{◌≡◌, List, [], ◌∷◌, ◌++◌, ap, subst, map, Bool, true, false, not}
use Rattle.std.proofs.Common.{refl, sym, ◌∙◌, inl, inr}
use Rattle.std.specs.Prelude.{filter}
use Rattle.std.specs.List.{list_any}
use Rattle.std.specs.List.Sorted.{IsPermutation}
use Rattle.std.proofs.lemmas.Bool.{cases_Bool}
use Rattle.std.proofs.lemmas.List.Sorted.{list_any-IsPermutation}
use Rattle.sqlite.specs.Order.{Row}
use Rattle.ftd_sql.specs.Order.{EachToNext}
use Rattle.ftd_store.specs.Lists.{Pairs, Lists, ListsFirst}

-- each row that is left passes the test
pub none_fails : {X : Type 0} (test : X → Bool) (xs : List X) → list_any (λ x. not (test x))
    (filter test xs) ≡ false
none_fails test [] = refl
none_fails test (x ∷ xs) = elim (cases_Bool (test x)) [
  | inl passes ↦ rw (passes, passes) (none_fails test xs)
  | inr fails ↦ rw fails (none_fails test xs)
]

pairs_shown : {X Y : Type 0} (test : X → Bool) (see : X → Row) (seen : Y → Row) (IsRowOf : X → Y
    → Type 0) → ((x : X) (y : Y) → test x ≡ true → see x ≡ seen y → IsRowOf x y)
    → (xs : List X) (ys : List Y) → list_any (λ x. not (test x)) xs ≡ false
    → map see xs ≡ map seen ys → Pairs IsRowOf xs ys
pairs_shown test see seen IsRowOf same [] [] all h = tt
pairs_shown test see seen IsRowOf same [] (y ∷ ys) all h = absurd cc
pairs_shown test see seen IsRowOf same (x ∷ xs) [] all h = absurd cc
pairs_shown test see seen IsRowOf same (x ∷ xs) (y ∷ ys) all h = elim (cases_Bool (test x)) [
  | inl passes ↦ (
    same x y passes cc,
    pairs_shown test see seen IsRowOf same xs ys
        (rw passes at all) cc,
  )
  | inr fails ↦ absurd (let wrong = rw fails at all in cc)
]

-- the rows that pass, in the order in which they are shown, are those of the values that are read
pub lists_shown : {X Y : Type 0} (Rise : X → X → Type 0) (IsRowOf : X → Y → Type 0)
    (test : X → Bool) (see : X → Row) (seen : Y → Row)
    → ((x : X) (y : Y) → test x ≡ true → see x ≡ seen y → IsRowOf x y)
    → (rows ordered : List X) (listed : List Y) → IsPermutation (filter test rows) ordered
    → EachToNext Rise ordered → map see ordered ≡ map seen listed
    → Lists Rise IsRowOf (filter test rows) listed
lists_shown Rise IsRowOf test see seen same rows ordered listed moved rise shown =
    let all = sym (list_any-IsPermutation (λ x. not (test x)) (filter test rows) ordered moved)
    ∙ none_fails test rows in
    record {
      ordered = ordered;
      same = moved;
      rise = rise;
      pairs = pairs_shown test see seen IsRowOf same ordered listed all shown;
    }

-- ---- the first of the rows

front : {X Y : Type 0} (test : X → Bool) (see : X → Row) (seen : Y → Row) (IsRowOf : X → Y → Type 0)
    → ((x : X) (y : Y) → test x ≡ true → see x ≡ seen y → IsRowOf x y)
    → (xs : List X) (ys : List Y) (tail : List Row) → list_any (λ x. not (test x)) xs ≡ false
    → map seen ys ++ tail ≡ map see xs → (first : List X) × (rest : List X) × (xs ≡ first ++ rest)
    × Pairs IsRowOf first ys
front test see seen IsRowOf same xs [] tail all h = ([], xs, refl, tt)
front test see seen IsRowOf same [] (y ∷ ys) tail all h = absurd cc
front test see seen IsRowOf same (x ∷ xs) (y ∷ ys) tail all h = elim (cases_Bool (test x)) [
  | inl passes ↦
      (let more = front test see seen IsRowOf same xs ys tail (rw passes at all) cc in
      (x ∷ more.0, more.1, ap (λ zs. x ∷ zs) more.2, (same x y passes cc, more.3)))
  | inr fails ↦ absurd (let wrong = rw fails at all in cc)
]

-- the first rows of a reading, in the order in which they are shown, are those of the values that
-- are read
pub first_shown : {X Y : Type 0} (Rise : X → X → Type 0) (IsRowOf : X → Y → Type 0)
    (test : X → Bool) (see : X → Row) (seen : Y → Row)
    → ((x : X) (y : Y) → test x ≡ true → see x ≡ seen y → IsRowOf x y)
    → (rows ordered : List X) (listed : List Y) (tail : List Row)
    → IsPermutation (filter test rows) ordered → EachToNext Rise ordered
    → map seen listed ++ tail ≡ map see ordered → ListsFirst Rise IsRowOf (filter test rows) listed
first_shown Rise IsRowOf test see seen same rows ordered listed tail moved rise shown =
    let all = sym (list_any-IsPermutation (λ x. not (test x)) (filter test rows) ordered moved)
    ∙ none_fails test rows in
    let cut = front test see seen IsRowOf same ordered listed tail all shown in
    record {
      first = cut.0;
      rest = cut.1;
      same = subst (λ ys. IsPermutation (filter test rows) ys) cut.2 moved;
      rise = subst (λ ys. EachToNext Rise ys) cut.2 rise;
      pairs = cut.3;
    }

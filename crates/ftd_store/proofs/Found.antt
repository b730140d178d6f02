-- What a reading by key found.
use Rattle.std.proofs.Common.{◌≡◌, ℕ, List, [], ◌∷◌, map, inl, inr, Bool, Option, None, Some, true}
use Rattle.std.proofs.Common.{refl, sym, ap, subst, ◌∙◌, arith}
use Rattle.std.specs.Prelude.{filter, ◌&&◌}
use Rattle.std.specs.List.Sorted.{IsPermutation}
use Rattle.std.proofs.lemmas.Bool.{cases_Bool}
use Rattle.std.proofs.lemmas.List.Sorted.{IsPermutation-sym, length_permutation}
use Rattle.sqlite.specs.Order.{Row}
use Rattle.sqlite.proofs.Callers.{one_permutation}
use Rattle.ftd_sql.proofs.KeptWrites.{one_of}
use Rattle.ftd_store.specs.Reading.{rows_of}

head_passes : {X : Type 0} (test : X → Bool) (xs : List X) (y : X) (ys : List X)
    → filter test xs ≡ y ∷ ys → test y ≡ true
head_passes test [] y ys h = absurd cc
head_passes test (x ∷ xs) y ys h = elim (cases_Bool (test x)) [
  | inl yes_it ↦ let e = rw yes_it at h in let same : x ≡ y = cc in ap test (sym same) ∙ yes_it
  | inr no_it ↦ head_passes test xs y ys (rw no_it at h)
]

-- the rows that pass are those that were found
pub only_shown : {X Y : Type 0} (see : X → Row) (seen : Y → Row) (row : Y → X) (test : X → Bool)
    (xs : List X) (found : Option Y) (rows : List Row)
    → ((x : X) (y : Y) → test x ≡ true → see x ≡ seen y → x ≡ row y)
    → IsPermutation (map see (filter test xs)) rows → rows ≡ rows_of seen found
    → filter test xs ≡ rows_of row found
only_shown see seen row test xs None rows same moved is = none_of see (filter test xs)
    (subst (λ r. IsPermutation (map see (filter test xs)) r) is moved)
  where
    none_of : {A : Type 0} (see : A → Row) (ys : List A) → IsPermutation (map see ys) [] → ys ≡ []
    none_of see [] moved = refl
    none_of see (y ∷ ys) moved =
        absurd (let same = length_permutation (see y ∷ map see ys) [] moved in omega arith)
only_shown see seen row test xs (Some y) rows same moved is =
    let single = one_permutation (seen y) _
    (IsPermutation-sym _ _ (subst (λ r. IsPermutation (map see (filter test xs)) r) is moved)) in
    let one = one_of see (filter test xs) (seen y) single in
    one.1 ∙ ap (λ x. x ∷ []) (same one.0 y (head_passes test xs one.0 [] one.1) one.2)

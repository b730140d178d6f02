-- A search in a list.
use Rattle.std.proofs.Common.{◌≡◌, Bool, true, false, List, [], ◌∷◌, Option, None, Some, inl}
use Rattle.std.proofs.Common.{inr, refl, sym, subst}
use Rattle.std.specs.Prelude.{find, option_map, if◌then◌else◌}
use Rattle.ftd_rules.specs.Lists.{Has}
use Rattle.ftd_machine.proofs.Members.{found_none}

-- what is found is in the list, and passes
pub found : {X : Type 0} (test : X → Bool) (xs : List X) (x : X) → find test xs ≡ Some x
    → Has xs x × (test x ≡ true)
found test [] x is = absurd cc
found {X = X} test (y ∷ xs) x is = step (test y) refl is (found test xs x)
  where
    step : (b : Bool) → test y ≡ b → ◌≡◌ {A = Option X} (if b then Some y else find test xs)
        (Some x) → (find test xs ≡ Some x → Has xs x × (test x ≡ true)) → Has (y ∷ xs) x
        × (test x ≡ true)
    step true passes is more = let same : y ≡ x = cc in
        (inl (sym same), subst (λ z. test z ≡ true) same passes)
    step false fails is more = let later = more is in (inr later.0, later.1)

-- where nothing is found, nothing in it passes
pub not_found : {X : Type 0} (test : X → Bool) (xs : List X) → find test xs ≡ None → (x : X)
    → Has xs x → test x ≡ true → ⊥
not_found {X = X} test xs none x has passes = found_none {X = X} {Y = X} (λ y. y) test xs
    (search_none (find test xs) none) x has passes
  where
    search_none : (o : Option X) → o ≡ None → option_map (λ y. y) o ≡ None
    search_none (Some y) is = absurd cc
    search_none None is = refl

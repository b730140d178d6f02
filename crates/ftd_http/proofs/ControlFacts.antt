-- Controls, one after the other.
use Rattle.std.proofs.Common.{arith, ◌≡◌, ◌||◌, Bool, false, true, List, [], ◌∷◌, Option, None, Some}
use Rattle.std.proofs.Common.{map, option_map, refl}
use Rattle.std.specs.List.{find, list_any}
use Rattle.std.proofs.lemmas.Grind.{common_steps}
use Rattle.ftd_http.specs.Controls.{Typed, have_one_name, name_comes_twice}

-- what is found in a list, by a view of its items
pub found_by : {A B : Type 0} (view : A → B) (test : B → Bool) (xs : List A)
    → option_map view (find (λ x. test (view x)) xs) ≡ find test (map view xs)
found_by view test [] = refl
found_by view test (x ∷ xs) = grind (arith, common_steps, found_by view test xs)

pub mapped_twice : {A B C : Type 0} (f : B → C) (g : A → B) (r : Option A)
    → option_map (λ x. f (g x)) r ≡ option_map f (option_map g r)
mapped_twice f g None = refl
mapped_twice f g (Some x) = refl

-- whether an item passes a test, by a view of the items
pub any_by : {A B : Type 0} (view : A → B) (test : B → Bool) (xs : List A)
    → list_any (λ x. test (view x)) xs ≡ list_any test (map view xs)
any_by view test [] = refl
any_by view test (x ∷ xs) = rw (any_by view test xs) refl

-- the name of the first comes again, or those of the others are looked at
pub named_again : (control : Typed) (others : List Typed)
    → list_any (have_one_name control) others ≡ true
    → true ≡ name_comes_twice (control ∷ others)
unfolding name_comes_twice
named_again control others is = rw is refl

pub not_named_again : (control : Typed) (others : List Typed)
    → list_any (have_one_name control) others ≡ false
    → name_comes_twice others ≡ name_comes_twice (control ∷ others)
unfolding name_comes_twice
not_named_again control others not = rw not refl

pub none_comes_twice : false ≡ name_comes_twice []
unfolding name_comes_twice
none_comes_twice = refl

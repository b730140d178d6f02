-- Words that are joined are so as bytes.
use Rattle.std.proofs.Common.{◌≡◌, ◌++◌, ◌||◌, ℕ, Bool, List, [], ◌∷◌, map, refl, ap}
use Rattle.std.specs.List.{flat_map, join_by, list_any}

flat_mapped : {X : Type 0} (text : X → List ℕ) (more : List ℕ → List ℕ) (words : List X)
    → flat_map (λ word. more (text word)) words ≡ flat_map more (map text words)
flat_mapped text more [] = refl
flat_mapped text more (word ∷ words) =
    ap (λ rest. more (text word) ++ rest) (flat_mapped text more words)

pub joined_bytes : {X : Type 0} (text : X → List ℕ) (separator : List ℕ) (words : List X)
    → join_by text separator words ≡ join_by (λ word. word) separator (map text words)
joined_bytes text separator [] = refl
joined_bytes text separator (word ∷ words) =
    ap (λ rest. text word ++ rest) (flat_mapped text (λ said. separator ++ said) words)

-- and a test of some of them is one of their bytes
pub any_mapped : {X Y : Type 0} (test : Y → Bool) (f : X → Y) (xs : List X)
    → list_any (λ x. test (f x)) xs ≡ list_any test (map f xs)
any_mapped test f [] = refl
any_mapped test f (x ∷ xs) = ap (λ rest. test (f x) || rest) (any_mapped test f xs)

-- A list in another order, by what is made of each of it.
use Rattle.std.proofs.Common.{◌≡◌, ◌∙◌, ℕ, zero, suc, refl, sym, ap, subst, List, [], ◌∷◌, map}
use Rattle.std.proofs.Common.{get_or, set}
use Rattle.std.proofs.Common.{swap}
use Rattle.std.specs.List.Sorted.{IsPermutation, apply_swaps, SwapsInRange}
use Rattle.std.proofs.lemmas.List.{map-set, length-map}
use Rattle.ftd_check.proofs.SameOwn.{mapped_once}

module _ {X Y : Type 0} (f : X → Y) where
  get_mapped : (xs : List X) (j : ℕ) (d : X) → get_or (map f xs) j (f d) ≡ f (get_or xs j d)
  get_mapped [] j d = refl
  get_mapped (x ∷ xs) zero d = refl
  get_mapped (x ∷ xs) (suc j) d = get_mapped xs j d

  map_swap : (xs : List X) (i j : ℕ) → map f (swap xs i j) ≡ swap (map f xs) i j
  map_swap [] i j = refl
  map_swap (d ∷ ys) i j =
      map-set f (set (d ∷ ys) i (get_or (d ∷ ys) j d)) j (get_or (d ∷ ys) i d)
      ∙ ap (λ (zs : List Y). set zs j (f (get_or (d ∷ ys) i d)))
      (map-set f (d ∷ ys) i (get_or (d ∷ ys) j d)
      ∙ ap (set (map f (d ∷ ys)) i) (sym (get_mapped (d ∷ ys) j d)))
      ∙ ap (set (set (map f (d ∷ ys)) i (get_or (map f (d ∷ ys)) j (f d))) j)
      (sym (get_mapped (d ∷ ys) i d))

  map_swaps : (xs : List X) (ps : List (ℕ × ℕ))
      → map f (apply_swaps xs ps) ≡ apply_swaps (map f xs) ps
  map_swaps xs [] = refl
  map_swaps xs (p ∷ ps) =
      map_swap (apply_swaps xs ps) p.0 p.1 ∙ ap (λ (l : List Y). swap l p.0 p.1) (map_swaps xs ps)

  -- where what is made of each determines it, the lists are in another order if what is made of
  -- them is
  pub unmapped : ((a b : X) → f a ≡ f b → a ≡ b) → (xs ys : List X)
      → IsPermutation (map f xs) (map f ys) → IsPermutation xs ys
  unmapped once xs ys p = record {
    moves = p.moves;
    below = subst (λ n. SwapsInRange n p.moves) (length-map xs f) p.below;
    is = mapped_once f once ys (apply_swaps xs p.moves) (p.is ∙ sym (map_swaps xs p.moves));
  }

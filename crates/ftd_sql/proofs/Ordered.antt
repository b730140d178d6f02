-- ORDER BY: the answer is the rows that pass, in another order that rises.
use Rattle.std.proofs.Common.{◌≡◌, ℕ, List, [], ◌∷◌, map, length, get_or, ◌<◌, refl, sym, ap, subst}
use Rattle.std.proofs.Common.{◌∙◌, arith}
use Rattle.std.proofs.Math.ListN.{set}
use Rattle.std.proofs.Math.ListN as raw
use Rattle.std.specs.List.{swap}
use Rattle.std.specs.List.Sorted.{IsPermutation, IsSorted}
use Rattle.std.proofs.lemmas.List.{map-set, length-map}
use Rattle.std.proofs.lemmas.List.Edits.{swap_is}
use Rattle.std.proofs.lemmas.List.Sorted.{IsPermutation-refl, IsPermutation-trans}
use Rattle.std.proofs.lemmas.List.Sorted.{IsPermutation-swap, IsPermutation-keeps}
use Rattle.sqlite.specs.Order.{Row}
use Rattle.sqlite.specs.Term.{Term, Env, eval_all}
use Rattle.sqlite.specs.Tree.{Trees}
use Rattle.sqlite.specs.Program.{overlay}
use Rattle.sqlite.specs.Query.{IsAnswer, output, Output, output_cmp}
use Rattle.sqlite_value.specs.declared.keys.Key.{Key}
use Rattle.ftd_sql.proofs.KeptLemmas.{plain_query, scan, same_tree, map_map}

swap_map : {P X : Type 0} (f : P → X) (l : List P) (i j : ℕ) → i < length l → j < length l
    → swap (map f l) i j ≡ map f (swap l i j)
swap_map f [] i j p q = absurd (omega arith)
swap_map f (x ∷ xs) i j p q =
    let l = x ∷ xs in
    let p' : i < length (map f l) = omega (arith, length-map l f) in
    let q' : j < length (map f l) = omega (arith, length-map l f) in
    sym (
    ap (map f) (sym (swap_is l i j x p q)) ∙ map-set f (set l i (get_or l j x)) j (get_or l i x)
    ∙ ap (λ m. set m j (f (get_or l i x))) (map-set f l i (get_or l j x))
    ∙ ap (λ a. set (set (map f l) i a) j (f (get_or l i x))) (sym (raw.get_or-map f l j x))
    ∙ ap (λ a. set (set (map f l) i (get_or (map f l) j (f x))) j a) (sym (raw.get_or-map f l i x))
    ∙ swap_is (map f l) i j (f x) p' q'
    )

-- a permutation of images is the image of a permutation
pub lifted : {P X : Type 0} (f : P → X) (ps : List P) (ys : List X) → IsPermutation (map f ps) ys
    → (qs : List P) × IsPermutation ps qs × (ys ≡ map f qs)
lifted {P = P} f ps ys moved =
    IsPermutation-keeps (map f ps) (λ l. (qs : List P) × IsPermutation ps qs × (l ≡ map f qs))
    (ps, IsPermutation-refl ps, refl)
    (λ l i j p q h.
    let p' : i < length h.0 = omega (arith, ap length h.2, length-map h.0 f) in
    let q' : j < length h.0 = omega (arith, ap length h.2, length-map h.0 f) in (
      swap h.0 i j,
      IsPermutation-trans ps h.0 (swap h.0 i j) h.1
          (IsPermutation-swap h.0 (swap h.0 i j) i j p' q' refl),
      ap (λ k. swap k i j) h.2 ∙ swap_map f h.0 i j p' q',
    ))
    ys moved

pub answer_ordered : (tree : ℕ) (filters project : List Term) (order : List (Term × Key))
    (db : Trees) (params : Row) (rows : List Row)
    → IsAnswer (plain_query tree filters project order) (overlay db []) params rows
    → (es : List Env) × IsPermutation (scan filters params (db tree)) es
    × (rows ≡ map (eval_all project) es)
    × IsSorted (output_cmp (plain_query tree filters project order))
    (map (output (plain_query tree filters project order)) es)
answer_ordered tree filters project order db params rows a =
    let q = plain_query tree filters project order in
    let staged : a.staged ≡ scan filters params (db tree) = a.grouped ∙ ap (scan filters params)
    (same_tree db tree) in
    let kept : a.kept ≡ map (output q) (scan filters params (db tree)) = a.distinct
    ∙ ap (map (output q)) staged in
    let all = lifted (output q) (scan filters params (db tree)) a.ordered
    (subst (λ k. IsPermutation k a.ordered) kept a.same) in (
      all.0,
      all.1,
      a.shown ∙ ap (map (λ (o : Output). o.1)) all.2 ∙ map_map (λ (o : Output). o.1)
          (output q) all.0,
      subst (IsSorted (output_cmp q)) all.2 a.sorted,
    )

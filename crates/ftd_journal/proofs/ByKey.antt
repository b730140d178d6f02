-- A list that goes by a key already is the list put in order by that key, where no two have the
-- same one.
use Rattle.std.proofs.Common.{◌≡◌, ◌∙◌, inl, inr, refl, sym, ap, subst, ℕ, suc, ◌+◌, ◌≤◌}
use Rattle.std.proofs.Common.{Bool, List, [], ◌∷◌, map, arith}
use Rattle.std.specs.Prelude.{filter}
use Rattle.std.specs.List.Sorted.{IsPermutation}
use Rattle.std.proofs.lemmas.Bool.{cases_Bool}
use Rattle.std.proofs.lemmas.List.Sorted.{IsPermutation-map, IsPermutation-trans}
use Rattle.std.proofs.lemmas.List.Sorted.{IsPermutation-refl, IsPermutation-sym}
use Rattle.ftd_rules.specs.Lists.{Has, KeysRise, KeysDoNotFall}
use Rattle.ftd_rules.proofs.Members.{filter_in, filter_out, has_mapped}
use Rattle.ftd_rules.proofs.Rising.{sorted_is}
use Rattle.ftd_sql.specs.Order.{EachToNext}
use Rattle.ftd_store.specs.Lists.{Lists, Pairs}
use Rattle.ftd_machine.specs.Journal.{in_order}
use Rattle.ftd_machine.specs.Sound.{AreDistinct}
use Rattle.ftd_machine.proofs.InOrder.{ordered_is}
use Rattle.ftd_machine.proofs.Orders.{is_before, ordered_rises}

-- ---- what was read of rows, each of which is that of one value

module _ {X R : Type 0} (row : X → R) (same : (a b : X) → row a ≡ row b → a ≡ b) (key : X → ℕ)
    (key_of : R → ℕ) (keyed : (x : X) → key_of (row x) ≡ key x) where
  map_same : (xs ys : List X) → map row xs ≡ map row ys → xs ≡ ys
  map_same [] [] is = refl
  map_same [] (y ∷ ys) is = absurd cc
  map_same (x ∷ xs) [] is = absurd cc
  map_same (x ∷ xs) (y ∷ ys) is =
      let first : row x ≡ row y = cc in
      let later : map row xs ≡ map row ys = cc in
      let head : x ≡ y = same x y first in
      let tail : xs ≡ ys = map_same xs ys later in
      cc

  rows_rise : (xs : List X) → KeysRise key xs → KeysRise key_of (map row xs)
  rows_rise [] rise = tt
  rows_rise (x ∷ xs) rise = (
    (λ later has.
        (let from = has_mapped row xs later has in
        let less = rise.0 from.0 from.1 in
        let here = keyed x in
        let there : key_of later ≡ key from.0 = ap key_of from.2 ∙ keyed from.0 in
        omega arith)),
    rows_rise xs rise.1,
  )

  rows_do_not_fall : (xs : List X) → KeysDoNotFall key xs → KeysDoNotFall key_of (map row xs)
  rows_do_not_fall [] fall = tt
  rows_do_not_fall (x ∷ xs) fall = (
    (λ later has.
        (let from = has_mapped row xs later has in
        let less = fall.0 from.0 from.1 in
        let here = keyed x in
        let there : key_of later ≡ key from.0 = ap key_of from.2 ∙ keyed from.0 in
        omega arith)),
    rows_do_not_fall xs fall.1,
  )

  -- values whose keys do not fall are those put in order whose rows these are
  ordered_rows : (own given : List X) → AreDistinct key own → KeysDoNotFall key given
      → IsPermutation (map row own) (map row given) → given ≡ in_order (is_before key) own
  ordered_rows own given apart fall moved =
      let ordered = in_order (is_before key) own in
      map_same given ordered
      (sorted_is key_of (map row ordered) (map row given)
      (rows_rise ordered (ordered_rises key own apart)) (rows_do_not_fall given fall)
      (IsPermutation-trans (map row ordered) (map row own) (map row given)
      (IsPermutation-sym (map row own) (map row ordered)
      (IsPermutation-map row own ordered (ordered_is (is_before key) own))) moved))

  paired_rows : {Y : Type 0} (value : Y → X) (rows : List R) (given : List Y)
      → Pairs (λ r y. r ≡ row (value y)) rows given → rows ≡ map row (map value given)
  paired_rows value [] [] pairs = refl
  paired_rows value [] (y ∷ given) pairs = absurd pairs
  paired_rows value (r ∷ rows) [] pairs = absurd pairs
  paired_rows value (r ∷ rows) (y ∷ given) pairs =
      ap (λ q. q ∷ rows) pairs.0
      ∙ ap (λ qs. row (value y) ∷ qs) (paired_rows value rows given pairs.1)

  -- what was listed of the rows of these values, in an order in which the keys do not fall, are
  -- the values put in order
  module _ {Y : Type 0} (value : Y → X) (Rise : R → R → Type 0) (own : List X)
      (apart : AreDistinct key own) {rows : List R} (are : rows ≡ map row own)
      (found : List Y) (lists : Lists Rise (λ r y. r ≡ row (value y)) rows found) where
    same_rows : lists.ordered ≡ map row (map value found)
    same_rows = paired_rows value lists.ordered found lists.pairs

    pub sorted_as : (sorted : List Y) → IsPermutation found sorted
        → KeysDoNotFall key (map value sorted)
        → map value sorted ≡ in_order (is_before key) own
    sorted_as sorted moved fall =
        ordered_rows own (map value sorted) apart fall
        (IsPermutation-trans (map row own) (map row (map value found))
        (map row (map value sorted))
        (subst (λ qs. IsPermutation qs (map row (map value found))) are
        (subst (λ qs. IsPermutation rows qs) same_rows lists.same))
        (IsPermutation-map row (map value found) (map value sorted)
        (IsPermutation-map value found sorted moved)))

    -- also in the order of the reading
    pub listed_as : ((a b : X) → Rise (row a) (row b) → key a ≤ key b)
        → map value found ≡ in_order (is_before key) own
    listed_as rises =
        sorted_as found (IsPermutation-refl found)
        (next_rises (map value found) (subst (EachToNext Rise) same_rows lists.rise))
      where
        next_rises : (ys : List X) → EachToNext Rise (map row ys) → KeysDoNotFall key ys
        next_rises [] each = tt
        next_rises (y ∷ []) each = ((λ later has. absurd has), tt)
        next_rises (y ∷ z ∷ ys) each =
            let rest : KeysDoNotFall key (z ∷ ys) = next_rises (z ∷ ys)
            (λ k d low. let next : suc k + 1 ≡ suc (k + 1) = omega arith in
            rw next at (each (suc k) d (omega arith))) in
            let first : key y ≤ key z = rises y z (each 0 (row y) (omega arith)) in (
              (λ later has. elim has [
                | inl is ↦ let its : key later ≡ key z = ap key is in omega arith
                | inr after ↦ let more = rest.0 later after in omega arith
              ]),
              rest,
            )

-- of values those pass a test whose rows pass another
pub rows_that_pass : {X R : Type 0} (row : X → R) (test : R → Bool) (mine : X → Bool) (xs : List X)
    → ((x : X) → Has xs x → test (row x) ≡ mine x)
    → filter test (map row xs) ≡ map row (filter mine xs)
rows_that_pass row test mine [] tests = refl
rows_that_pass row test mine (x ∷ xs) tests =
    let here = tests x (inl refl) in
    let rest = rows_that_pass row test mine xs (λ y has. tests y (inr has)) in
    elim (cases_Bool (mine x)) [
      | inl is ↦ filter_in test (row x) (map row xs) (here ∙ is)
          ∙ ap (λ rs. row x ∷ rs) rest
          ∙ sym (ap (map row) (filter_in mine x xs is))
      | inr off ↦ filter_out test (row x) (map row xs) (here ∙ off)
          ∙ rest
          ∙ sym (ap (map row) (filter_out mine x xs off))
    ]

-- Obligations that rise, and those that are not among others.
use Rattle.std.proofs.Common.{◌≡◌, ℕ, zero, suc, ◌+◌, ◌<◌, inl, inr, List, [], ◌∷◌, ◌++◌, map, take}
use Rattle.std.proofs.Common.{length, get_or, refl, sym, ap, subst, ◌∙◌, arith}
use Rattle.std.specs.List.Sorted.{IsPermutation}
use Rattle.ftd_rules.specs.declared.Obligation.{Obligation}
use Rattle.ftd_rules.specs.Lists.{Has, KeysRise}
use Rattle.ftd_rules.specs.Obligations.{ByFirstDay}
use Rattle.ftd_rules.proofs.Owed.{has_append, has_left, has_right}
use Rattle.ftd_rules.proofs.Rising.{rises_push}
use Rattle.ftd_store.specs.Lists.{Pairs, Lists}
use Rattle.ftd_machine.specs.Posting.{AreThose}
use Rattle.ftd_store.proofs.Items.{has_at, has_more, has_still, has_now}

-- ---- by first day

-- one row, or none
pub rise_single : (rows : List Obligation) → length rows < 2 → ByFirstDay rows
rise_single [] few = tt
rise_single (o ∷ []) few = ((λ later has. absurd has), tt)
rise_single (o ∷ p ∷ rows) few = absurd (omega arith)

-- ---- those of some items of which something holds

module _ {X : Type 0} (key : X → ℕ) (Holds : X → Type 0) where
  earlier : (items : List X) (i : ℕ) (x y : X) → KeysRise key items → i < length items
      → x ≡ get_or items i x → Has (take i items) y → key y < key x
  earlier [] i x y h some is has = absurd (omega arith)
  earlier (z ∷ items) zero x y h some is has = absurd has
  earlier (z ∷ items) (suc i) x y h some is (inl here) =
      let later = h.0 x (has_at items i x (omega arith) is) in
      let first : key y ≡ key z = ap key here in
      omega arith
  earlier (z ∷ items) (suc i) x y h some is (inr more) =
      earlier items i x y h.1 (omega arith) is more

  -- of one item more, of which it holds
  pub those_more : (items those : List X) (i : ℕ) (x : X) → KeysRise key items
      → i < length items → x ≡ get_or items i x → Holds x
      → AreThose key Holds (take i items) those
      → AreThose key Holds (take (i + 1) items) (those ++ x ∷ [])
  those_more items those i x rise some is holds h = record {
    in_order = rises_push key those x h.in_order
        (λ y has. earlier items i x y rise some is ((h.all y).0 has).0);
    all = λ y. (
      (λ has. elim (has_append those (x ∷ []) y has) [
        | inl before ↦ (let k = (h.all y).0 before in (has_still items i x y some is k.0, k.1))
        | inr (inl here) ↦ (
          subst (λ (z : X). Has (take (i + 1) items) z) (sym here) (has_now items i x some is),
          subst Holds (sym here) holds,
        )
        | inr (inr never) ↦ absurd never
      ]),
      (λ k. elim (has_more items i x y some is k.0) [
        | inl before ↦ has_left those (x ∷ []) y ((h.all y).1 (before, k.1))
        | inr here ↦ has_right those (x ∷ []) y (inl here)
      ]),
    );
  }

  -- or of which it does not hold
  pub those_same : (items those : List X) (i : ℕ) (x : X) → i < length items
      → x ≡ get_or items i x → (Holds x → ⊥) → AreThose key Holds (take i items) those
      → AreThose key Holds (take (i + 1) items) those
  those_same items those i x some is fails h = record {
    in_order = h.in_order;
    all = λ y. (
      (λ has. let k = (h.all y).0 has in (has_still items i x y some is k.0, k.1)),
      (λ k. elim (has_more items i x y some is k.0) [
        | inl before ↦ (h.all y).1 (before, k.1)
        | inr here ↦ absurd (fails (subst Holds here k.1))
      ]),
    );
  }

-- ---- rows that were listed

paired : {X Y : Type 0} (row : Y → X) (xs : List X) (ys : List Y) → Pairs (λ x y. x ≡ row y) xs ys
    → xs ≡ map row ys
paired row [] [] pairs = refl
paired row [] (y ∷ ys) pairs = absurd pairs
paired row (x ∷ xs) [] pairs = absurd pairs
paired row (x ∷ xs) (y ∷ ys) pairs = ap (λ r. r ∷ xs) pairs.0
    ∙ ap (λ rs. row y ∷ rs) (paired row xs ys pairs.1)

-- they are those of the values that were listed
pub are_listed : {X Y : Type 0} (Rise : X → X → Type 0) (row : Y → X) (rows : List X)
    (listed : List Y) → Lists Rise (λ x y. x ≡ row y) rows listed
    → IsPermutation rows (map row listed)
are_listed {X = X} Rise row rows listed l = subst (λ (xs : List X). IsPermutation rows xs)
    (paired row l.ordered listed l.pairs) l.same

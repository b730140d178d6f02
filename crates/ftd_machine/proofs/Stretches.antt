-- Amounts for stretches of days that lie apart are together no more than the liability of the days
-- that hold them all.
use Rattle.std.proofs.Common.{◌≡◌, inl, inr, sym, subst, ℕ, ◌+◌, ◌-◌, ◌<◌, ◌≤◌, List, [], ◌∷◌}
use Rattle.std.proofs.Common.{refl, arith}
use Rattle.std.specs.List.{sum_by}
use Rattle.std.proofs.lemmas.List.Sums.{sum_by-cons}
use Rattle.std.proofs.lemmas.Bool.{cases_lt}
use Rattle.ftd_rules.specs.declared.DaySum.{DaySum}
use Rattle.ftd_rules.specs.Lists.{Has, KeysRise}
use Rattle.ftd_rules.specs.Liability.{liability}
use Rattle.ftd_rules.proofs.Along.{liability_empty}
use Rattle.ftd_rules.proofs.Adding.{liability_split}

-- more days, from an earlier one on, have no less liability
liability_from : (sums : List DaySum) (a b c : ℕ) → a ≤ b
    → liability sums b c ≤ liability sums a c
liability_from sums a b c l =
    elim (cases_lt c b) [
      | inl none ↦ (let e = liability_empty sums b c none in omega arith)
      | inr some ↦ elim (cases_lt a b) [
        | inl more ↦
            let next : b - 1 + 1 ≡ b = omega arith in
            let split = rw next at (liability_split sums a (b - 1) c (omega arith) (omega arith)) in
            omega arith
        | inr no_more ↦ let e : a ≡ b = omega arith in rw e (omega arith)
      ]
    ]

module _ {X : Type 0} (first last amount : X → ℕ) (sums : List DaySum) where
  -- the amount is the liability of its days, and there is at least one
  abbrev pub IsFor : X → Type 0
  IsFor x = (first x ≤ last x) × (amount x ≡ liability sums (first x) (last x))

  -- what begins earlier ends before the other begins
  abbrev pub LieApart : List X → Type 0
  LieApart xs = (x y : X) → Has xs x → Has xs y → first x < first y → last x < first y

  within_le : (from to : ℕ) (xs : List X) → KeysRise first xs → LieApart xs
      → ((x : X) → Has xs x → (from ≤ first x) × (last x ≤ to) × IsFor x)
      → sum_by amount xs ≤ liability sums from to
  within_le from to [] rise apart each = omega arith
  within_le from to (x ∷ xs) rise apart each =
      let its = each x (inl refl) in
      let its0 = its.0 in let its1 = its.1 in let some = its.2.0 in let is = its.2.1 in
      let rest = within_le (last x + 1) to xs rise.1
      (λ y z has_y has_z l. apart y z (inr has_y) (inr has_z) l)
      (λ y has.
      (let h = each y (inr has) in
      let later = apart x y (inl refl) (inr has) (rise.0 y has) in (omega arith, h.1, h.2))) in
      let both = sum_by-cons amount x xs in
      let split = liability_split sums (first x) (last x) to (omega arith) its1 in
      let front = liability_from sums from (first x) to its0 in
      omega arith

  -- a day after which none of them has one
  end_of : (xs : List X) → (to : ℕ) × ((x : X) → Has xs x → last x ≤ to)
  end_of [] = (0, λ x has. absurd has)
  end_of (x ∷ xs) =
      let rest = end_of xs in (
        last x + rest.0,
        λ y has. elim has [
          | inl is ↦ subst (λ z. last z ≤ last x + rest.0) (sym is) (omega arith)
          | inr later ↦ (let h = rest.1 y later in omega arith)
        ],
      )

  pub together_le : (xs : List X) → KeysRise first xs → LieApart xs
      → ((x : X) → Has xs x → IsFor x)
      → (to : ℕ) × (sum_by amount xs ≤ liability sums 0 to)
  together_le xs rise apart each =
      let end = end_of xs in
      (end.0, within_le 0 end.0 xs rise apart (λ x has. (omega arith, end.1 x has, each x has)))

-- Day sums whose days rise.
use Rattle.std.proofs.Common.{◌≡◌, ℕ, ◌+◌, ◌<◌, List, [], ◌∷◌, suc, inl, inr, refl, sym, subst}
use Rattle.std.proofs.Common.{arith}
use Rattle.std.proofs.lemmas.Bool.{cases_lt}
use Rattle.ftd_sql.specs.Order.{EachToNext}
use Rattle.ftd_rules.specs.declared.DaySum.{DaySum}
use Rattle.ftd_rules.specs.Liability.{share, liability}
use Rattle.ftd_rules.specs.Lists.{Has, KeysRise}
use Rattle.ftd_rules.proofs.Walk.{liability-cons, share_before, share_after, share_in}
use Rattle.ftd_machine.specs.Asking.{day_of_sum}

module _ {X : Type 0} (key : X → ℕ) where
  abbrev Less : X → X → Type 0
  Less a b = key a < key b

  later_rise : (x : X) (xs : List X) → EachToNext Less (x ∷ xs) → EachToNext Less xs
  later_rise x xs each = λ k d low. (let next : suc k + 1 ≡ suc (k + 1) = omega arith in
      rw next at (each (suc k) d (omega (arith, low))))

  first_least : (x : X) (xs : List X) → EachToNext Less (x ∷ xs) → (later : X) → Has xs later
      → key x < key later
  first_least x [] each later has = absurd has
  first_least x (y ∷ ys) each later (inl is) = subst (λ z. key x < key z) (sym is)
      (each 0 x (omega arith))
  first_least x (y ∷ ys) each later (inr has) =
      let one = each 0 x (omega arith) in
      let more = first_least y ys (later_rise x (y ∷ ys) each) later has in
      omega arith

  -- what rises from each to the next rises
  pub keys_rise : (xs : List X) → EachToNext Less xs → KeysRise key xs
  keys_rise [] each = tt
  keys_rise (x ∷ xs) each = (first_least x xs each, keys_rise xs (later_rise x xs each))

-- no sum is of a day before all of them
none_before : (day : ℕ) (sums : List DaySum) → ((x : DaySum) → Has sums x → day < x.day)
    → liability sums day day ≡ 0
none_before day [] late = refl
none_before day (x ∷ sums) late =
    let first = late x (inl refl) in
    let here : share day day x ≡ 0 = share_after x day day (omega arith) first in
    let rest = none_before day sums (λ y has. late y (inr has)) in
    let cons = liability-cons x sums day day in
    omega arith

-- the liability of the day of a sum is the sum
pub sum_of_its_day : (sums : List DaySum) → KeysRise day_of_sum sums → (x : DaySum) → Has sums x
    → liability sums x.day x.day ≡ x.cents.0
sum_of_its_day [] rise x has = absurd has
sum_of_its_day (y ∷ sums) rise x (inl is) =
    let here : liability (y ∷ sums) y.day y.day ≡ y.cents.0 =
    (let its = share_in y y.day y.day (omega arith) (omega arith) in
    let rest = none_before y.day sums rise.0 in
    let cons = liability-cons y sums y.day y.day in
    omega arith) in
    subst (λ (z : DaySum). liability (y ∷ sums) z.day z.day ≡ z.cents.0) (sym is) here
sum_of_its_day (y ∷ sums) rise x (inr has) =
    let less = rise.0 x has in
    let none : share x.day x.day y ≡ 0 = share_before y x.day x.day less in
    let rest = sum_of_its_day sums rise.1 x has in
    let cons = liability-cons y sums x.day x.day in
    omega arith

-- a day that has liability has a sum
pub sum_of_day : (sums : List DaySum) (day : ℕ) → 0 < liability sums day day → (x : DaySum)
    × Has sums x × (x.day ≡ day)
sum_of_day [] day some = absurd (omega arith)
sum_of_day (y ∷ sums) day some =
    elim (cases_lt y.day day) [
      | inl before ↦ later (sum_of_day sums day) (share_before y day day before)
      | inr from ↦ elim (cases_lt day y.day) [
        | inl after ↦ later (sum_of_day sums day) (share_after y day day from after)
        | inr to ↦ (y, inl refl, omega arith)
      ]
    ]
  where
    later : (0 < liability sums day day → (x : DaySum) × Has sums x × (x.day ≡ day))
        → share day day y ≡ 0 → (x : DaySum) × Has (y ∷ sums) x × (x.day ≡ day)
    later more none =
        let cons = liability-cons y sums day day in
        let found = more (omega arith) in
        (found.0, inr found.1, found.2)

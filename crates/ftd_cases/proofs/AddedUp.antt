-- The paydays of an explanation add up to the amount of its obligation.
use Rattle.std.proofs.Common.{◌≡◌, ℕ, ◌+◌, ◌-◌, ◌≤◌, ◌<◌, ◌↔◌, inl, inr, List, [], ◌∷◌, refl}
use Rattle.std.proofs.Common.{sym, ap}
use Rattle.std.proofs.Common.{arith}
use Rattle.std.specs.List.{sum_by}
use Rattle.std.proofs.lemmas.Bool.{cases_lt}
use Rattle.std.proofs.lemmas.List.Sums.{sum_by-cons}
use Rattle.ftd_rules.specs.declared.DaySum.{DaySum}
use Rattle.ftd_rules.specs.Liability.{liability}
use Rattle.ftd_rules.specs.Lists.{Has, KeysRise}
use Rattle.ftd_rules.proofs.Adding.{liability_split, runs_none}
use Rattle.ftd_machine.specs.State.{latest}
use Rattle.ftd_machine.specs.Explaining.{day_of_payday}
use Rattle.ftd_machine.specs.declared.explained.RunningSum.{RunningSum}
use Rattle.ftd_cases.specs.Laws.{cents_of_payday}

module _ (sums : List DaySum) (first : ℕ) where
  -- a payday of the days a to b, with the liability since the first day
  abbrev IsPayday : ℕ → ℕ → RunningSum → Type 0
  IsPayday a b x =
      ((a ≤ x.day) × (x.day ≤ b))
      × (x.cents.0 ≡ liability sums x.day x.day) × (0 < x.cents.0)
      × (x.total.0 ≡ liability sums first x.day)

  abbrev pub ArePaydays : ℕ → ℕ → List RunningSum → Type 0
  ArePaydays a b xs = (x : RunningSum) → Has xs x ↔ IsPayday a b x

  at_day : (d : ℕ) → RunningSum
  at_day d = record {
    day = d;
    cents = record { 0 = liability sums d d };
    total = record { 0 = liability sums first d };
  }

  -- a day that is none of them has no liability
  none_on : (a b : ℕ) (xs : List RunningSum) → ArePaydays a b xs → (d : ℕ) → a ≤ d → d ≤ b
      → ((x : RunningSum) → Has xs x → x.day ≡ d → ⊥) → liability sums d d ≡ 0
  unfolding at_day
  none_on a b xs are d l m apart = elim (cases_lt 0 (liability sums d d)) [
    | inr none ↦ omega arith
    | inl some ↦ absurd (apart (at_day d) ((are (at_day d)).1 ((l, m), refl, some, refl)) refl)
  ]

  none_left : (a b : ℕ) → ArePaydays a b [] → liability sums a b ≡ 0
  none_left a b are =
      runs_none sums a b (λ d l m. none_on a b [] are d l m (λ x has same. has))

  later : (a b : ℕ) (x : RunningSum) (xs : List RunningSum) → KeysRise day_of_payday (x ∷ xs)
      → ArePaydays a b (x ∷ xs) → ArePaydays (x.day + 1) b xs
  later a b x xs rise are y =
      let from = ((are x).0 (inl refl)).0.0 in (
        (λ has. (let is = (are y).0 (inr has) in let less = rise.0 y has in
            let to = is.0.1 in ((omega arith, to), is.1, is.2, is.3))),
        (λ is. (let l = is.0.0 in
            elim ((are y).1 ((omega arith, is.0.1), is.1, is.2, is.3)) [
              | inr there ↦ there
              | inl same ↦ absurd
                  (let day : y.day ≡ x.day = ap (λ (z : RunningSum). z.day) same in omega arith)
            ])),
      )

  -- up to the first of them there is its own liability alone
  up_to_first : (a b : ℕ) (x : RunningSum) (xs : List RunningSum)
      → KeysRise day_of_payday (x ∷ xs) → ArePaydays a b (x ∷ xs)
      → liability sums a x.day ≡ x.cents.0
  up_to_first a b x xs rise are =
      let is = (are x).0 (inl refl) in
      let from = is.0.0 in
      let to = is.0.1 in
      let own = is.1 in
      elim (cases_lt a x.day) [
        | inr none ↦ (let e : a ≡ x.day = omega arith in rw e (sym own))
        | inl some ↦
            let next : x.day - 1 + 1 ≡ x.day = omega arith in
            let parts = rw next at
            (liability_split sums a (x.day - 1) x.day (omega arith) (omega arith)) in
            let none = runs_none sums a (x.day - 1)
            (λ d l m. none_on a b (x ∷ xs) are d l (omega arith)
            (λ y has same. elim has [
              | inl first ↦
                  (let day : y.day ≡ x.day = ap (λ (z : RunningSum). z.day) first in omega arith)
              | inr more ↦ (let less = rise.0 y more in omega arith)
            ])) in
            omega arith
      ]

  pub paydays_add_up : (xs : List RunningSum) (a b : ℕ) → KeysRise day_of_payday xs
      → ArePaydays a b xs → sum_by cents_of_payday xs ≡ liability sums a b
  paydays_add_up [] a b rise are = sym (none_left a b are)
  paydays_add_up (x ∷ xs) a b rise are =
      let is = (are x).0 (inl refl) in
      let from = is.0.0 in
      let to = is.0.1 in
      let rest = paydays_add_up xs (x.day + 1) b rise.1 (later a b x xs rise are) in
      let here = up_to_first a b x xs rise are in
      let parts = liability_split sums a x.day b (omega arith) to in
      let cons = sum_by-cons cents_of_payday x xs in
      omega arith

  pub last_total : (x : RunningSum) (xs : List RunningSum) (a b : ℕ) → first ≤ a
      → KeysRise day_of_payday (x ∷ xs) → ArePaydays a b (x ∷ xs)
      → (latest x xs).total.0 ≡ liability sums first b
  last_total x [] a b low rise are =
      let is = (are x).0 (inl refl) in
      let from = is.0.0 in
      let to = is.0.1 in
      let total = is.3 in
      let none = none_left (x.day + 1) b (later a b x [] rise are) in
      let parts = liability_split sums first x.day b (omega arith) to in
      omega arith
  last_total x (y ∷ ys) a b low rise are =
      let from = ((are x).0 (inl refl)).0.0 in
      last_total y ys (x.day + 1) b (omega arith) rise.1 (later a b x (y ∷ ys) rise are)

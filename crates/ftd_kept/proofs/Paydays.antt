-- The sums of an obligation's days, each with what they are together up to it, are its paydays.
use Rattle.std.proofs.Common.{◌≡◌, ◌∙◌, ℕ, ◌+◌, ◌<◌, ◌≤◌, List, [], ◌∷◌, ◌++◌, Vec, inl, inr, refl}
use Rattle.std.proofs.Common.{sym, ap, subst, arith}
use Rattle.std.specs.Prelude.{◌↔◌}
use Rattle.std.specs.List.{sum_by}
use Rattle.std.proofs.lemmas.List.Sums.{sum_by-cons}
use Rattle.ftd_days.specs.declared.cents.Cents.{Cents}
use Rattle.ftd_rules.specs.declared.DaySum.{DaySum}
use Rattle.ftd_rules.specs.declared.Obligation.{Obligation}
use Rattle.ftd_rules.specs.Liability.{liability, share, cents_of}
use Rattle.ftd_rules.specs.Lists.{Has, KeysRise}
use Rattle.ftd_rules.proofs.Adding.{runs_same}
use Rattle.ftd_rules.proofs.Walk.{liability-cons, share_in, share_after}
use Rattle.ftd_sql.specs.Standing.{Tables}
use Rattle.ftd_store.specs.Finds.{ListsLiability}
use Rattle.ftd_machine.specs.Asking.{day_of_sum}
use Rattle.ftd_machine.specs.Explaining.{IsPaydayOf, day_of_payday}
use Rattle.ftd_machine.specs.History.{live_sums}
use Rattle.ftd_machine.specs.State.{State, entries_of}
use Rattle.ftd_machine.specs.declared.explained.RunningSum.{RunningSum}
use Rattle.ftd_entries.specs.Standing.{StandsFor}
use Rattle.ftd_kept.specs.Explained.{AreRunning}
use Rattle.ftd_entries.proofs.LiableDays.{liable_in, sum_is, is_sum, rise}

-- ---- one row more

pub running_more : (before : ℕ) (sums : List DaySum) (rows : List RunningSum) (sum : DaySum)
    (x : RunningSum) → AreRunning before sums rows → x.day ≡ sum.day → x.cents ≡ sum.cents
    → x.total.0 ≡ before + sum_by cents_of sums + sum.cents.0
    → AreRunning before (sums ++ sum ∷ []) (rows ++ x ∷ [])
running_more before [] [] sum x are day cents total =
    (day, cents, (let none : sum_by cents_of [] ≡ 0 = refl in omega arith), tt)
running_more before [] (y ∷ rows) sum x are day cents total = absurd are
running_more before (s ∷ sums) [] sum x are day cents total = absurd are
running_more before (s ∷ sums) (y ∷ rows) sum x are day cents total =
    let cons = sum_by-cons cents_of s sums in (
      are.0,
      are.1,
      are.2,
      running_more (before + s.cents.0) sums rows sum x are.3 day cents (omega arith),
    )

-- ---- each row beside its sum

pub row_of_sum : (before : ℕ) (sums : List DaySum) (rows : List RunningSum)
    → AreRunning before sums rows → (y : DaySum) → Has sums y
    → (x : RunningSum) × Has rows x × (x.day ≡ y.day) × (x.cents ≡ y.cents)
row_of_sum before [] rows are y has = absurd has
row_of_sum before (s ∷ sums) [] are y has = absurd are
row_of_sum before (s ∷ sums) (z ∷ rows) are y (inl is) = (
  z,
  inl refl,
  are.0 ∙ ap (λ (d : DaySum). d.day) (sym is),
  are.1 ∙ ap (λ (d : DaySum). d.cents) (sym is),
)
row_of_sum before (s ∷ sums) (z ∷ rows) are y (inr has) =
    let rest = row_of_sum (before + s.cents.0) sums rows are.3 y has in
    (rest.0, inr rest.1, rest.2, rest.3)

sum_of_row : (before : ℕ) (sums : List DaySum) (rows : List RunningSum)
    → AreRunning before sums rows → (x : RunningSum) → Has rows x
    → (y : DaySum) × Has sums y × (x.day ≡ y.day)
sum_of_row before [] [] are x has = absurd has
sum_of_row before [] (z ∷ rows) are x has = absurd are
sum_of_row before (s ∷ sums) [] are x has = absurd has
sum_of_row before (s ∷ sums) (z ∷ rows) are x (inl is) =
    (s, inl refl, ap (λ (r : RunningSum). r.day) is ∙ are.0)
sum_of_row before (s ∷ sums) (z ∷ rows) are x (inr has) =
    let rest = sum_of_row (before + s.cents.0) sums rows are.3 x has in
    (rest.0, inr rest.1, rest.2)

rows_rise : (before : ℕ) (sums : List DaySum) (rows : List RunningSum) → KeysRise day_of_sum sums
    → AreRunning before sums rows → KeysRise day_of_payday rows
rows_rise before [] [] up are = tt
rows_rise before [] (z ∷ rows) up are = absurd are
rows_rise before (s ∷ sums) [] up are = absurd are
rows_rise before (s ∷ sums) (z ∷ rows) up are = (
  (λ later has.
      (let its = sum_of_row (before + s.cents.0) sums rows are.3 later has in
      let less = up.0 its.0 its.1 in
      let day = its.2 in
      let here = are.0 in
      omega arith)),
  rows_rise (before + s.cents.0) sums rows up.1 are.3,
)

-- ---- the totals

-- nothing is owed up to a day before all sums
none_until : (first day : ℕ) (sums : List DaySum)
    → ((y : DaySum) → Has sums y → (first ≤ y.day) × (day < y.day)) → liability sums first day ≡ 0
none_until first day [] late = refl
none_until first day (y ∷ sums) late =
    let its = late y (inl refl) in
    let here : share first day y ≡ 0 = share_after y first day its.0 its.1 in
    let rest = none_until first day sums (λ z has. late z (inr has)) in
    let cons = liability-cons y sums first day in
    omega arith

-- a row is of a sum, and its total is what was owed before and from the first day up to its own
sum_and_total : (first before : ℕ) (sums : List DaySum) (rows : List RunningSum)
    → KeysRise day_of_sum sums → ((y : DaySum) → Has sums y → first ≤ y.day)
    → AreRunning before sums rows → (x : RunningSum) → Has rows x
    → (y : DaySum) × Has sums y × (x.day ≡ y.day) × (x.cents ≡ y.cents)
    × (x.total.0 ≡ before + liability sums first x.day)
sum_and_total first before [] [] up since are x has = absurd has
sum_and_total first before [] (z ∷ rows) up since are x has = absurd are
sum_and_total first before (s ∷ sums) [] up since are x has = absurd has
sum_and_total first before (s ∷ sums) (z ∷ rows) up since are x (inl is) =
    subst (λ (r : RunningSum). (y : DaySum) × Has (s ∷ sums) y × (r.day ≡ y.day)
    × (r.cents ≡ y.cents) × (r.total.0 ≡ before + liability (s ∷ sums) first r.day)) (sym is) (
      s,
      inl refl,
      are.0,
      are.1,
      (let low = since s (inl refl) in
          let here : share first s.day s ≡ s.cents.0 = share_in s first s.day low (omega arith) in
          let none = none_until first s.day sums (λ y has. (since y (inr has), up.0 y has)) in
          let cons = liability-cons s sums first s.day in
          let total = are.2 in
          let day : liability (s ∷ sums) first z.day ≡ liability (s ∷ sums) first s.day =
          ap (λ d. liability (s ∷ sums) first d) are.0 in
          omega arith),
    )
sum_and_total first before (s ∷ sums) (z ∷ rows) up since are x (inr has) =
    let rest = sum_and_total first (before + s.cents.0) sums rows up.1 (λ y k. since y (inr k))
    are.3 x has in
    let less = up.0 rest.0 rest.1 in
    let day = rest.2 in
    let here : share first x.day s ≡ s.cents.0 =
    share_in s first x.day (since s (inl refl)) (omega arith) in
    let cons = liability-cons s sums first x.day in
    let total = rest.4 in
    (rest.0, inr rest.1, rest.2, rest.3, omega arith)

-- ---- paydays

module _ {A : Type 0} (name : List ℕ) (o : Obligation) (sums : Vec DaySum A)
    (rows : List RunningSum) (t : Tables) (s : State) (stands : StandsFor t s)
    (lists : ListsLiability name o.first o.last sums t) (are : AreRunning 0 sums.items rows) where
  abbrev Of : List DaySum
  Of = live_sums (entries_of s name)

  up : KeysRise day_of_sum sums.items
  up = rise name o.first o.last sums t s stands lists

  pub paydays_rise : KeysRise day_of_payday rows
  paydays_rise = rows_rise 0 sums.items rows up are

  up_to : (day : ℕ) → day ≤ o.last → liability sums.items o.first day ≡ liability Of o.first day
  up_to day soon = runs_same Of sums.items o.first day
      (λ d low high. liable_in name o.first o.last sums t s stands lists d low (omega arith))

  total_is : (a b c : ℕ) → a ≡ 0 + b → b ≡ c → a ≡ c
  total_is a b c e f = omega arith

  payday_of : (x : RunningSum) → Has rows x → IsPaydayOf (entries_of s name) o x
  payday_of x has =
      let from = sum_and_total o.first 0 sums.items rows up
      (λ y k. (sum_is name o.first o.last sums t s stands lists y k).0) are x has in
      let its = sum_is name o.first o.last sums t s stands lists from.0 from.1 in
      let day = from.2 in
      let low = its.0 in
      let high = its.1 in
      let cents : x.cents.0 ≡ from.0.cents.0 = ap (λ (c : Cents). c.0) from.3 in
      let positive = its.3 in (
        (omega arith, omega arith),
        cents ∙ its.2 ∙ ap (λ d. liability Of d d) (sym day),
        omega arith,
        total_is x.total.0 (liability sums.items o.first x.day) _ from.4
            (up_to x.day (omega arith)),
      )

  of_payday : (x : RunningSum) → IsPaydayOf (entries_of s name) o x → Has rows x
  of_payday x is =
      let y : DaySum = record { day = x.day; cents = x.cents } in
      let has = is_sum name o.first o.last sums t s stands lists y is.0.0 is.0.1 is.1 is.2 in
      let row = row_of_sum 0 sums.items rows are y has in
      let its = payday_of row.0 row.1 in
      let total : x.total.0 ≡ row.0.total.0 =
      is.3 ∙ ap (λ d. liability Of o.first d) (sym row.2) ∙ sym its.3 in
      subst (Has rows) (sym (same row.0 (sym row.2) (sym row.3) total)) row.1
    where
      same : (z : RunningSum) → x.day ≡ z.day → x.cents ≡ z.cents → x.total.0 ≡ z.total.0 → x ≡ z
      same z day cents total =
          λ i. record { day = day i; cents = cents i; total = record { 0 = total i } }

  pub paydays_are : (x : RunningSum) → Has rows x ↔ IsPaydayOf (entries_of s name) o x
  paydays_are x = (payday_of x, of_payday x)

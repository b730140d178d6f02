-- The days that an explanation counts, written out as what they are, one after the other.
use Rattle.std.proofs.Common.{◌≡◌, ◌↔◌, inl, inr, sym, ap, subst, ℕ, ◌+◌, ◌≤◌, ◌<◌, arith}
use Rattle.std.proofs.Common.{List, [], ◌∷◌, length}
use Rattle.std.proofs.lemmas.Bool.Decides.{eqb_tells}
use Rattle.ftd_rules.specs.declared.Obligation.{Obligation}
use Rattle.ftd_rules.specs.Laws.{IsFirstCounted}
use Rattle.ftd_rules.specs.Lists.{Has, KeysRise}
use Rattle.ftd_machine.specs.Explaining.{IsCountedDay, IsKindOfDay, day_counted}
use Rattle.ftd_machine.specs.declared.explained.CountedDay.{CountedDay}
use Rattle.ftd_machine.specs.declared.explained.DayKind.{DayKind}
use Rattle.ftd_machine.proofs.Counting.{kind_one, from_one}

-- days of these kinds, from a day on
abbrev pub days_from : ℕ → List DayKind → List CountedDay
days_from day [] = []
days_from day (kind ∷ kinds) = record { day = day; kind = kind } ∷ days_from (day + 1) kinds

abbrev pub AreKinds : List ℕ → ℕ → List DayKind → Type 0
AreKinds closed day [] = Unit {0}
AreKinds closed day (kind ∷ kinds) = IsKindOfDay closed day kind × AreKinds closed (day + 1) kinds

abbrev LiesFrom : List ℕ → ℕ → List DayKind → CountedDay → Type 0
LiesFrom closed day kinds x =
    (day ≤ x.day) × (x.day < day + length kinds) × IsKindOfDay closed x.day x.kind

days_are : (closed : List ℕ) (day : ℕ) (kinds : List DayKind) → AreKinds closed day kinds
    → (x : CountedDay) → Has (days_from day kinds) x ↔ LiesFrom closed day kinds x
days_are closed day [] are x = (
  (λ has. absurd has),
  (λ h. absurd (let a = h.0 in let b = h.1 in omega arith)),
)
days_are closed day (kind ∷ kinds) are x =
    let rest = days_are closed (day + 1) kinds are.1 x in (
      (λ has. elim has [
        | inl is ↦ subst (LiesFrom closed day (kind ∷ kinds)) (sym is)
            (omega arith, omega arith, are.0)
        | inr more ↦ (let h = rest.0 more in let a = h.0 in let b = h.1 in
            (omega arith, omega arith, h.2))
      ]),
      (λ h. elim (eqb_tells x.day day) [
        | inl same ↦
            (let of = kind_one closed day x.kind kind
            (subst (λ d. IsKindOfDay closed d x.kind) same.1 h.2) are.0 in
            inl (λ i. record { day = same.1 i; kind = of i }))
        | inr apart ↦ inr (rest.1 (let a = h.0 in let b = h.1 in
            (beyond day x.day a apart.1, omega arith, h.2)))
      ]),
    )
  where
    beyond : (from d : ℕ) → from ≤ d → (d ≡ from → ⊥) → from + 1 ≤ d
    beyond from d l apart = omega arith

-- they rise
pub rises : (day : ℕ) (kinds : List DayKind) → KeysRise day_counted (days_from day kinds)
rises day [] = tt
rises day (kind ∷ kinds) = (
  (λ later has. (let from = from_on (day + 1) kinds later has in omega arith)),
  rises (day + 1) kinds,
)
  where
    from_on : (from : ℕ) (kinds : List DayKind) (x : CountedDay) → Has (days_from from kinds) x
        → from ≤ x.day
    from_on from [] x has = absurd has
    from_on from (kind ∷ kinds) x (inl is) =
        let e : x.day ≡ from = ap (λ (z : CountedDay). z.day) is in omega arith
    from_on from (kind ∷ kinds) x (inr more) =
        let rest = from_on (from + 1) kinds x more in omega arith

-- from the first day that is counted to the due date they are the days of the explanation
pub counted_days : (closed : List ℕ) (o : Obligation) (from : ℕ) (kinds : List DayKind)
    → IsFirstCounted o.rule o.last from → AreKinds closed from kinds
    → from + length kinds ≡ o.due + 1 → (x : CountedDay)
    → Has (days_from from kinds) x ↔ IsCountedDay closed o x
counted_days closed o from kinds first are end x =
    let days = days_are closed from kinds are x in (
      (λ has. (let h = days.0 has in let b = h.1 in (from, first, h.0, omega arith, h.2))),
      (λ h. (let same = from_one o.rule o.last h.0 from h.1 first in
          let a = h.2 in let b = h.3 in
          days.1 (omega arith, omega arith, h.4))),
    )

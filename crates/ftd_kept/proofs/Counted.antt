-- The days that are counted to a due date.
use Rattle.std.proofs.Common.{◌≡◌, ◌∙◌, ℕ, ◌+◌, ◌-◌, ◌<◌, ◌≤◌, zero, suc, List, [], ◌∷◌, ◌++◌, inl}
use Rattle.std.proofs.Common.{inr, refl, sym, ap, subst, arith}
use Rattle.std.specs.Prelude.{◌↔◌, ◌&&◌, not, nat_lt}
use Rattle.std.proofs.lemmas.Bool.Decides.{eqb_tells}
use Rattle.ftd_days.specs.Business.{is_holiday}
use Rattle.ftd_days.specs.Calendar.{weekday_of}
use Rattle.ftd_rules.specs.declared.Obligation.{Obligation}
use Rattle.ftd_rules.specs.Lists.{Has, KeysRise}
use Rattle.ftd_rules.specs.Laws.{IsFirstCounted}
use Rattle.ftd_store.specs.Lists.{Pairs}
use Rattle.ftd_store.proofs.Items.{pairs_more, paired_from, paired_to}
use Rattle.ftd_machine.specs.Explaining.{IsKindOfDay, IsCountedDay, day_counted}
use Rattle.ftd_machine.proofs.Counting.{from_one, kind_one}
use Rattle.ftd_machine.specs.declared.explained.CountedDay.{CountedDay}
use Rattle.ftd_machine.specs.declared.explained.DayKind.{DayKind}
use Rattle.ftd_machine.specs.declared.explained.DayKind.TheVariants.{Business, Saturday, Sunday}
use Rattle.ftd_machine.specs.declared.explained.DayKind.TheVariants.{Holiday}
use Rattle.ftd_kept.specs.Explained.{days_from, IsCounted}

-- ---- a list of days

-- one day more at the end
days_more : (first n : ℕ) → days_from first (suc n) ≡ days_from first n ++ (first + n) ∷ []
days_more first zero = let same : first ≡ first + 0 = omega arith in ap (λ d. d ∷ []) same
days_more first (suc n) =
    let next : first + 1 + n ≡ first + suc n = omega arith in
    ap (λ ds. first ∷ ds) (days_more (first + 1) n
    ∙ ap (λ d. days_from (first + 1) n ++ d ∷ []) next)

pub counted_more : (R : ℕ → CountedDay → Type 0) (first n : ℕ) (days : List CountedDay) (day : ℕ)
    (x : CountedDay) → first + n ≡ day → Pairs R (days_from first n) days → R day x
    → Pairs R (days_from first (n + 1)) (days ++ x ∷ [])
counted_more R first n days day x at pairs is =
    let next : n + 1 ≡ suc n = omega arith in
    rw (next, days_more first n) (pairs_more R (days_from first n) days (first + n) x pairs
    (subst (λ d. R d x) (sym at) is))

in_days : (first n day : ℕ) → Has (days_from first n) day → (first ≤ day) × (day < first + n)
in_days first zero day has = absurd has
in_days first (suc n) day (inl is) = (omega arith, omega arith)
in_days first (suc n) day (inr has) =
    let rest = in_days (first + 1) n day has in
    let low = rest.0 in let high = rest.1 in (omega arith, omega arith)

of_days : (first n day : ℕ) → first ≤ day → day < first + n → Has (days_from first n) day
of_days first zero day low high = absurd (omega arith)
of_days first (suc n) day low high = elim (eqb_tells first day) [
  | inl is ↦ inl (sym is.1)
  | inr apart ↦ inr (of_days (first + 1) n day (beyond first day low apart.1) (omega arith))
]
  where
    beyond : (a b : ℕ) → a ≤ b → (a ≡ b → ⊥) → a + 1 ≤ b
    beyond a b low apart = omega arith

pairs_rise : (R : ℕ → CountedDay → Type 0) → ((d : ℕ) (x : CountedDay) → R d x → x.day ≡ d)
    → (first n : ℕ) (days : List CountedDay) → Pairs R (days_from first n) days
    → KeysRise day_counted days
pairs_rise R of first zero [] pairs = tt
pairs_rise R of first zero (x ∷ days) pairs = absurd pairs
pairs_rise R of first (suc n) [] pairs = absurd pairs
pairs_rise R of first (suc n) (x ∷ days) pairs = (
  (λ later has.
      (let its = paired_from R (days_from (first + 1) n) days later pairs.1 has in
      let within = (in_days (first + 1) n its.0 its.1).0 in
      let day = of its.0 later its.2 in
      let here = of first x pairs.0 in
      omega arith)),
  pairs_rise R of (first + 1) n days pairs.1,
)

-- ---- what a day is

-- it is the same by holidays that agree on the day
pub same_kind : (read all : List ℕ) (day : ℕ) (kind : DayKind)
    → is_holiday all day ≡ is_holiday read day → IsKindOfDay read day kind
    → IsKindOfDay all day kind
same_kind read all day Business same is =
    ap (λ h. nat_lt (weekday_of day) 5 && not h) same ∙ is
same_kind read all day Saturday same is = is
same_kind read all day Sunday same is = is
same_kind read all day Holiday same is = (is.0, same ∙ is.1)

-- ---- the days of an obligation

module _ (read all : List ℕ) (o : Obligation) (from : ℕ)
    (is_from : IsFirstCounted o.rule o.last from)
    (same : (day : ℕ) → from ≤ day → day ≤ o.due → is_holiday all day ≡ is_holiday read day)
    (days : List CountedDay)
    (pairs : Pairs (IsCounted read) (days_from from (o.due + 1 - from)) days) where
  pub counted_rise : KeysRise day_counted days
  counted_rise = pairs_rise (IsCounted read) (λ d x is. is.0) from (o.due + 1 - from) days pairs

  counted_day : (x : CountedDay) → Has days x → IsCountedDay all o x
  counted_day x has =
      let its = paired_from (IsCounted read) (days_from from (o.due + 1 - from)) days x pairs has in
      let within = in_days from (o.due + 1 - from) its.0 its.1 in
      let low = within.0 in let high = within.1 in
      let day = its.2.0 in
      let kind : IsKindOfDay read x.day x.kind =
      subst (λ d. IsKindOfDay read d x.kind) (sym day) its.2.1 in (
        from,
        is_from,
        omega arith,
        omega arith,
        same_kind read all x.day x.kind (same x.day (omega arith) (omega arith)) kind,
      )

  of_counted : (x : CountedDay) → IsCountedDay all o x → Has days x
  of_counted x is =
      let begins = from_one o.rule o.last from is.0 is_from is.1 in
      let low = is.2 in let high = is.3 in
      let its = paired_to (IsCounted read) (days_from from (o.due + 1 - from)) days x.day pairs
      (of_days from (o.due + 1 - from) x.day (omega arith) (omega arith)) in
      let kind : IsKindOfDay all x.day its.0.kind =
      same_kind read all x.day its.0.kind (same x.day (omega arith) (omega arith)) its.2.1 in
      let kinds : x.kind ≡ its.0.kind =
      kind_one all x.day x.kind its.0.kind is.4 kind in
      subst (Has days) (sym (whole its.0 (sym its.2.0) kinds)) its.1
    where
      whole : (z : CountedDay) → x.day ≡ z.day → x.kind ≡ z.kind → x ≡ z
      whole z a b = rw (a, b) refl

  pub counted_are : (x : CountedDay) → Has days x ↔ IsCountedDay all o x
  counted_are x = (counted_day x, of_counted x)

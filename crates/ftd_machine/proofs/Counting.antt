-- What a day is to the counting of business days, and the first day that is counted.
use Rattle.std.proofs.Common.{◌≡◌, ◌∙◌, refl, sym, ap, ℕ, ◌+◌, ◌<◌, List, arith, Bool, true, false}
use Rattle.std.specs.Prelude.{◌&&◌, nat_lt, not}
use Rattle.std.proofs.lemmas.Bool.{lt-ltb, ltb-true, true≢false}
use Rattle.ftd_days.specs.Business.{is_business, is_holiday}
use Rattle.ftd_days.specs.Calendar.{weekday_of}
use Rattle.ftd_rules.specs.declared.Rule.{Rule}
use Rattle.ftd_rules.specs.declared.Rule.TheVariants.{Monthly, Semiweekly, NextDay}
use Rattle.ftd_rules.specs.Laws.{IsFirstCounted}
use Rattle.ftd_machine.specs.Explaining.{IsKindOfDay}
use Rattle.ftd_machine.specs.declared.explained.DayKind.{DayKind}
use Rattle.ftd_machine.specs.declared.explained.DayKind.TheVariants.{Business, Saturday, Sunday}
use Rattle.ftd_machine.specs.declared.explained.DayKind.TheVariants.{Holiday}

-- ---- what a day is

-- a business day is a weekday and no holiday
weekday_of_business : (w h : Bool) → (w && not h) ≡ true → (w ≡ true) × (h ≡ false)
weekday_of_business true false e = (refl, refl)
weekday_of_business true true e = absurd cc
weekday_of_business false h e = absurd cc

holiday_left : (w h : Bool) → w ≡ true → (w && not h) ≡ false → h ≡ true
holiday_left true true e f = refl
holiday_left true false e f = absurd cc
holiday_left false h e f = absurd cc

module _ (holidays : List ℕ) (day : ℕ) where
  -- a day that is neither of a weekend nor a business day
  pub no_business : (weekday_of day ≡ 5 → ⊥) → (weekday_of day ≡ 6 → ⊥)
      → is_business holidays day ≡ false → IsKindOfDay holidays day Holiday
  no_business a b none =
      let weekday : weekday_of day < 5 = omega arith in (
        weekday,
        holiday_left (nat_lt (weekday_of day) 5) (is_holiday holidays day)
            (lt-ltb (weekday_of day) 5 weekday) none,
      )

  on_weekday : is_business holidays day ≡ true
      → (weekday_of day < 5) × (is_holiday holidays day ≡ false)
  on_weekday e =
      let is = weekday_of_business (nat_lt (weekday_of day) 5) (is_holiday holidays day) e in
      (ltb-true (weekday_of day) 5 is.0, is.1)

  -- it is one thing
  pub kind_one : (a b : DayKind) → IsKindOfDay holidays day a → IsKindOfDay holidays day b → a ≡ b
  kind_one Business Business g h = refl
  kind_one Business Saturday g h = absurd (let w = (on_weekday g).0 in omega arith)
  kind_one Business Sunday g h = absurd (let w = (on_weekday g).0 in omega arith)
  kind_one Business Holiday g h = absurd (true≢false (sym h.1 ∙ (on_weekday g).1))
  kind_one Saturday Business g h = absurd (let w = (on_weekday h).0 in omega arith)
  kind_one Saturday Saturday g h = refl
  kind_one Saturday Sunday g h = absurd (omega arith)
  kind_one Saturday Holiday g h = absurd (let w = h.0 in omega arith)
  kind_one Sunday Business g h = absurd (let w = (on_weekday h).0 in omega arith)
  kind_one Sunday Saturday g h = absurd (omega arith)
  kind_one Sunday Sunday g h = refl
  kind_one Sunday Holiday g h = absurd (let w = h.0 in omega arith)
  kind_one Holiday Business g h = absurd (true≢false (sym g.1 ∙ (on_weekday h).1))
  kind_one Holiday Saturday g h = absurd (let w = g.0 in omega arith)
  kind_one Holiday Sunday g h = absurd (let w = g.0 in omega arith)
  kind_one Holiday Holiday g h = refl

-- ---- the first day that is counted

pub neither : (a b : ℕ) → (a < b → ⊥) → (b < a → ⊥) → a ≡ b
neither a b f g = omega arith

pub from_one : (rule : Rule) (last a b : ℕ) → IsFirstCounted rule last a
    → IsFirstCounted rule last b
    → a ≡ b
from_one Monthly last a b g h = g ∙ sym h
from_one Semiweekly last a b g h =
    let close : g.0 ≡ h.0 = neither g.0 h.0
    (λ less. h.1.first g.0 g.1.not_before less g.1.holds)
    (λ less. g.1.first h.0 h.1.not_before less h.1.holds) in
    g.2 ∙ ap (λ c. c + 1) close ∙ sym h.2
from_one NextDay last a b g h = g ∙ sym h

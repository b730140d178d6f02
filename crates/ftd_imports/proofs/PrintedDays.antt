-- A day is known by its text, so that it is read back.
use Rattle.std.proofs.Common.{◌≡◌, ◌∙◌, refl, sym, ap, ℕ, ◌+◌, ◌-◌, ◌/◌, ◌%◌, ◌<◌, ◌≤◌, arith}
use Rattle.std.proofs.Common.{List, get_or, Option, None, Some}
use Rattle.ftd_days.specs.Calendar.{last_day, month_of, month_start, year_of, month_in_year}
use Rattle.ftd_days.specs.Calendar.{day_of_month}
use Rattle.ftd_days.specs.Digits.{digit}
use Rattle.ftd_days.specs.Spelling.{day_of}
use Rattle.ftd_days.specs.Text.{day_text}
use Rattle.ftd_days.proofs.Months.{in_month, date_bounds}
use Rattle.ftd_days.proofs.Spelling.{day_missing, day_spelled}

four_same : (a b : ℕ) → a < 10_000 → b < 10_000 → digit (a / 1000) ≡ digit (b / 1000)
    → digit (a / 100) ≡ digit (b / 100) → digit (a / 10) ≡ digit (b / 10) → digit a ≡ digit b
    → a ≡ b
four_same a b p q w x y z = omega arith

two_same : (a b : ℕ) → a < 100 → b < 100 → digit (a / 10) ≡ digit (b / 10) → digit a ≡ digit b
    → a ≡ b
two_same a b p q y z = omega arith

same_month : (m n : ℕ) → 1900 + m / 12 ≡ 1900 + n / 12 → m % 12 + 1 ≡ n % 12 + 1 → m ≡ n
same_month m n a b = omega arith

module _ (a b : ℕ) (early : a ≤ last_day) (early_too : b ≤ last_day)
    (same : day_text a ≡ day_text b) where
  at : (i : ℕ) → get_or (day_text a) i 0 ≡ get_or (day_text b) i 0
  at i = ap (λ (text : List ℕ). get_or text i 0) same

  years : year_of a ≡ year_of b
  years =
      four_same (year_of a) (year_of b) (omega (arith, (date_bounds a early).1))
      (omega (arith, (date_bounds b early_too).1))
      (at 0) (at 1) (at 2) (at 3)

  months : month_in_year a ≡ month_in_year b
  months =
      two_same (month_in_year a) (month_in_year b) (omega (arith, (date_bounds a early).2))
      (omega (arith, (date_bounds b early_too).2))
      (at 5) (at 6)

  days : day_of_month a ≡ day_of_month b
  days =
      two_same (day_of_month a) (day_of_month b) (omega (arith, (date_bounds a early).3))
      (omega (arith, (date_bounds b early_too).3))
      (at 8) (at 9)

  pub same_day : a ≡ b
  same_day =
      let starts : month_start (month_of a) ≡ month_start (month_of b) =
      ap month_start (same_month (month_of a) (month_of b) years months) in
      let d : a - month_start (month_of a) + 1 ≡ b - month_start (month_of b) + 1 = days in
      let p = (in_month a early).0 in
      let q = (in_month b early_too).0 in
      omega (arith, starts, d, p, q)

pub day_reread : (day : ℕ) → day ≤ last_day → day_of (day_text day) ≡ Some day
day_reread day early = found (day_of (day_text day)) refl
  where
    found : (o : Option ℕ) → day_of (day_text day) ≡ o → day_of (day_text day) ≡ Some day
    found None e =
        absurd (day_missing (day_text day) day e (record { within = early; spelled = refl }))
    found (Some other) e =
        let spelled = day_spelled (day_text day) other e in
        e ∙ ap Some (sym (same_day day other early spelled.within spelled.spelled))

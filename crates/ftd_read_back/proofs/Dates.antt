-- The dates that are read.
use Rattle.std.proofs.Common.{◌≡◌, refl, ap, ℕ, ◌≤◌, ◌+◌, ◌%◌, ◌/◌, ◌<◌}
use Rattle.std.proofs.Common.{◌++◌, Some, arith}
use Rattle.ftd_days.specs.Calendar.{last_day, year_of, month_in_year, day_of_month, month_of}
use Rattle.ftd_days.specs.Calendar.{month_start}
use Rattle.ftd_days.specs.Digits.{two_digits, four_digits, number_of}
use Rattle.ftd_days.proofs.Numerals.{digit_is}
use Rattle.ftd_days.proofs.Months.{date_bounds, in_month}
use Rattle.ftd_read_back.specs.Dates.{Date, date_of, date_read}

eight_digits : (y m d : ℕ) → y < 10_000 → m < 100 → d < 100
    → date_read (four_digits y ++ two_digits m ++ two_digits d)
    ≡ Some (record { year = y; month = m; day = d })
eight_digits y m d p q r =
    let a : number_of (four_digits y) ≡ y = omega arith in
    let b : number_of (two_digits m) ≡ m = omega arith in
    let c : number_of (two_digits d) ≡ d = omega arith in
    rw (
      digit_is (y / 1000),
      digit_is (y / 100),
      digit_is (y / 10),
      digit_is y,
      digit_is (m / 10),
      digit_is m,
      digit_is (d / 10),
      digit_is d,
      a,
      b,
      c,
    ) refl

-- the date of a day is read back
pub date_reread : (day : ℕ) → day ≤ last_day
    → date_read (four_digits (year_of day) ++ two_digits (month_in_year day)
    ++ two_digits (day_of_month day)) ≡ Some (date_of day)
date_reread day early =
    let bounds = date_bounds day early in
    eight_digits (year_of day) (month_in_year day) (day_of_month day) (omega arith) (omega arith)
    (omega arith)

same_month : (m n : ℕ) → 1900 + m / 12 ≡ 1900 + n / 12 → m % 12 + 1 ≡ n % 12 + 1 → m ≡ n
same_month m n a b = omega arith

-- a date is of one day
pub same_day : (a b : ℕ) → a ≤ last_day → b ≤ last_day → date_of a ≡ date_of b → a ≡ b
same_day a b p q e =
    let years : year_of a ≡ year_of b = ap (λ (d : Date). d.year) e in
    let months : month_in_year a ≡ month_in_year b = ap (λ (d : Date). d.month) e in
    let days : day_of_month a ≡ day_of_month b = ap (λ (d : Date). d.day) e in
    let starts : month_start (month_of a) ≡ month_start (month_of b) =
    ap month_start (same_month (month_of a) (month_of b) years months) in
    let c = (in_month a p).0 in
    let d = (in_month b q).0 in
    omega arith

-- What is printed of a value is read back as that value.
use Rattle.std.proofs.Common.{◌≡◌, ℕ, ◌^◌, ◌<◌, ◌≤◌, List, [], ◌∷◌, Option, Some, None, true, false}
use Rattle.std.proofs.Common.{refl, sym, ap, ◌∙◌, arith, take, drop, get_or, length, nat_lt, lt-ltb}
use Rattle.std.proofs.lemmas.Bool.Decides.{nat_tests}
use Rattle.std.proofs.lemmas.Fmt.{decimal_nonempty, digits_decimal, digits_value-decimal}
use Rattle.std.specs.Fmt.{decimal}
use Rattle.std.specs.Str.Parse.{without_leading_plus}
use Rattle.ftd_days.specs.Calendar.{day_of_month, last_day, month_in_year, month_of, month_start}
use Rattle.ftd_days.specs.Calendar.{quarter_year, year_of}
use Rattle.ftd_days.specs.declared.limits.TheConstants.{QUARTERS, SPELLED_END}
use Rattle.std.specs.Prelude.{◌==◌}
use Rattle.ftd_days.specs.Digits.{AreDigits, four_digits, two_digits}
use Rattle.ftd_days.specs.Spelling.{cents_of, day_of, spelled_quarter, whole_number}
use Rattle.ftd_days.specs.Text.{cents_text, day_text, quarter_text}
use Rattle.ftd_days.proofs.Months.{date_bounds, in_month}
use Rattle.ftd_days.proofs.Numerals.{digit_range, own}
use Rattle.ftd_days.proofs.Spelled.{printed_spells}
use Rattle.ftd_days.proofs.Spelling.{day_missing, day_spelled, quarter_missing, quarter_spelled}
use Rattle.ftd_days.proofs.Spelling.{spelled_cents}

-- ---- digits tell the number

-- numbers of four digits, or of two, with the same digits are the same
four_same : (m n : ℕ) → m < 10_000 → n < 10_000 → four_digits m ≡ four_digits n → m ≡ n
four_same m n l h e =
    let a = ap (λ ds. get_or ds 0 0) e in
    let b = ap (λ ds. get_or ds 1 0) e in
    let c = ap (λ ds. get_or ds 2 0) e in
    let d = ap (λ ds. get_or ds 3 0) e in
    omega arith

-- so are numbers of two digits
two_same : (m n : ℕ) → m < 100 → n < 100 → two_digits m ≡ two_digits n → m ≡ n
two_same m n l h e =
    let a = ap (λ ds. get_or ds 0 0) e in
    let b = ap (λ ds. get_or ds 1 0) e in
    omega arith

-- ---- days

-- a day is printed as no other one is
same_day : (a b : ℕ) → a ≤ last_day → b ≤ last_day → day_text a ≡ day_text b → a ≡ b
same_day a b l h e =
    let p = date_bounds a l in
    let q = date_bounds b h in
    let from = (in_month a l).0 in
    let to = (in_month b h).0 in
    let year : year_of a ≡ year_of b = four_same _ _ (omega arith) (omega arith)
    (ap (λ t. take 4 t) e) in
    let month : month_in_year a ≡ month_in_year b = two_same _ _ (omega arith) (omega arith)
    (ap (λ t. take 2 (drop 5 t)) e) in
    let day : day_of_month a ≡ day_of_month b = two_same _ _ (omega arith) (omega arith)
    (ap (λ t. drop 8 t) e) in
    let months : month_of a ≡ month_of b = omega arith in
    let start = ap month_start months in
    omega arith

-- a day of the calendar is read back
pub day_back : (d : ℕ) → d ≤ last_day → day_of (day_text d) ≡ Some d
day_back d h = go (day_of (day_text d)) refl
  where
    go : (o : Option ℕ) → day_of (day_text d) ≡ o → day_of (day_text d) ≡ Some d
    go None e = absurd (day_missing (day_text d) d e (record { within = h; spelled = refl }))
    go (Some other) e =
        let s = day_spelled (day_text d) other e in
        e ∙ ap Some (sym (same_day d other h s.within s.spelled))

-- ---- quarters

-- a quarter is printed as no other one is
same_quarter : (a b : ℕ) → a < QUARTERS → b < QUARTERS → quarter_text a ≡ quarter_text b → a ≡ b
same_quarter a b l h e =
    let year : quarter_year a ≡ quarter_year b = four_same _ _ (omega arith) (omega arith)
    (ap (λ t. take 4 t) e) in
    let number = ap (λ t. get_or t 5 0) e in
    omega arith

-- a quarter of the calendar is read back
pub quarter_back : (q : ℕ) → q < QUARTERS → spelled_quarter (quarter_text q) ≡ Some q
quarter_back q h = go (spelled_quarter (quarter_text q)) refl
  where
    go : (o : Option ℕ) → spelled_quarter (quarter_text q) ≡ o
        → spelled_quarter (quarter_text q) ≡ Some q
    go None e =
        absurd (quarter_missing (quarter_text q) q e (record { within = h; spelled = refl }))
    go (Some other) e =
        let s = quarter_spelled (quarter_text q) other e in
        e ∙ ap Some (sym (same_quarter q other h s.within s.spelled))

-- ---- amounts and numbers

-- an amount that can be spelled is read back
pub cents_back : (cents : ℕ) → cents < SPELLED_END → cents_of (cents_text cents) ≡ Some cents
cents_back cents h = spelled_cents (cents_text cents) cents (printed_spells cents h)

-- digits begin with no sign
pub no_plus : (ds : List ℕ) → AreDigits ds → without_leading_plus ds ≡ ds
no_plus [] h = refl
no_plus (d ∷ ds) h =
    let range = digit_range d ds h in
    let other : (d == 43) ≡ false = grind (arith, nat_tests) in
    rw other refl

-- a number is read back
pub number_back : (n : ℕ) → n < 2 ^ 32 → whole_number (decimal n) ≡ Some n
unfolding whole_number
number_back n h =
    let small : n < 2 ^ 64 = omega arith in
    let are = digits_decimal own n small in
    let value = digits_value-decimal own n small in
    let some : nat_lt 0 (length (decimal n)) ≡ true = lt-ltb _ _ (decimal_nonempty n small) in
    let few : nat_lt n (2 ^ 32) ≡ true = lt-ltb _ _ h in
    rw (no_plus (decimal n) are, are, some, value, few) refl

-- The fields of a record are plain: no byte of them calls for quotes.
use Rattle.std.proofs.Common.{◌≡◌, ◌∙◌, refl, sym, ap, ℕ, ◌/◌, ◌<◌, ◌^◌, ◌&&◌, ◌||◌, ◌==◌}
use Rattle.std.proofs.Common.{Bool, true, false, inl, inr, List, [], ◌∷◌, ◌++◌, length, arith}
use Rattle.std.specs.Prelude.{nat_lt}
use Rattle.std.specs.Char.{is_ascii_digit, is_ascii_lowercase}
use Rattle.std.specs.Fmt.{decimal}
use Rattle.std.specs.List.{list_all, list_any}
use Rattle.std.specs.Str.{all_ascii_digits}
use Rattle.std.proofs.lemmas.Bool.{cases_Bool, eqb-true, true≢false, and_parts}
use Rattle.std.proofs.lemmas.Fmt.{digits_decimal}
use Rattle.csv.specs.Writing.{default_writer, needs_byte}
use Rattle.ftd_days.specs.Digits.{digit, two_digits, four_digits}
use Rattle.ftd_days.specs.Text.{day_text, cents_text}
use Rattle.ftd_days.specs.Calendar.{year_of, month_in_year, day_of_month}
use Rattle.ftd_days.proofs.Numerals.{own, digit_is}
use Rattle.ftd_rules.specs.Accounts.{is_name_byte, is_account_name}

-- letters, digits, hyphens and points
abbrev pub is_own : ℕ → Bool
is_own byte = is_name_byte byte || (byte == 46)

abbrev pub are_own : List ℕ → Bool
are_own field = list_all is_own field

other_byte : (b k : ℕ) → is_own b ≡ true → is_own k ≡ false → (b == k) ≡ false
other_byte b k here there = elim (cases_Bool (b == k)) [
  | inl same ↦ absurd (true≢false (sym here ∙ ap is_own (eqb-true b k same) ∙ there))
  | inr other ↦ other
]

own_plain : (b : ℕ) → is_own b ≡ true → needs_byte default_writer b ≡ false
own_plain b own =
    rw (
      other_byte b 44 own refl,
      other_byte b 34 own refl,
      other_byte b 13 own refl,
      other_byte b 10 own refl,
    ) refl

pub plain : (field : List ℕ) → are_own field ≡ true
    → list_any (needs_byte default_writer) field ≡ false
plain [] e = refl
plain (b ∷ field) e =
    let parts = and_parts (is_own b) (are_own field) e in
    rw (own_plain b parts.0, plain field parts.1) refl

-- ---- each field

own_digit : (b : ℕ) → is_ascii_digit b ≡ true → is_own b ≡ true
own_digit b e = elim (cases_Bool (is_ascii_lowercase b)) [
  | inl letter ↦ rw letter refl
  | inr other ↦ rw (other, e) refl
]

pub own_digits : (ds : List ℕ) → all_ascii_digits ds ≡ true → are_own ds ≡ true
own_digits [] e = refl
own_digits (d ∷ ds) e =
    let parts = and_parts (is_ascii_digit d) (all_ascii_digits ds) e in
    rw (own_digit d parts.0, own_digits ds parts.1) refl

own_of : (n : ℕ) → is_own (digit n) ≡ true
own_of n = own_digit (digit n) (digit_is n)

pub own_decimal : (n : ℕ) → n < 2 ^ 64 → are_own (decimal n) ≡ true
own_decimal n small = own_digits (decimal n) (digits_decimal own n small)

own_append : (xs ys : List ℕ) → are_own xs ≡ true → are_own ys ≡ true → are_own (xs ++ ys) ≡ true
own_append [] ys a b = b
own_append (x ∷ xs) ys a b =
    let parts = and_parts (is_own x) (are_own xs) a in
    rw (parts.0, own_append xs ys parts.1 b) refl

own_two : (n : ℕ) → are_own (two_digits n) ≡ true
own_two n = rw (own_of (n / 10), own_of n) refl

own_four : (n : ℕ) → are_own (four_digits n) ≡ true
own_four n = rw (own_of (n / 1000), own_of (n / 100), own_of (n / 10), own_of n) refl

pub own_day : (day : ℕ) → are_own (day_text day) ≡ true
own_day day =
    own_append (four_digits (year_of day) ++ (45 ∷ two_digits (month_in_year day)))
    (45 ∷ two_digits (day_of_month day))
    (own_append (four_digits (year_of day)) (45 ∷ two_digits (month_in_year day))
    (own_four (year_of day)) (own_two (month_in_year day))) (own_two (day_of_month day))

pub own_cents : (amount : ℕ) → amount < 100_000_000_000 → are_own (cents_text amount) ≡ true
own_cents amount small =
    own_append (decimal (amount / 100)) (46 ∷ two_digits amount)
    (own_decimal (amount / 100) (omega arith)) (own_two amount)

name_own : (bytes : List ℕ) → list_all is_name_byte bytes ≡ true → are_own bytes ≡ true
name_own [] e = refl
name_own (b ∷ bytes) e =
    let parts = and_parts (is_name_byte b) (list_all is_name_byte bytes) e in
    rw (parts.0, name_own bytes parts.1) refl

pub own_name : (account : List ℕ) → is_account_name account ≡ true → are_own account ≡ true
unfolding is_account_name
own_name [] e = absurd cc
own_name (first ∷ others) e =
    let whole = and_parts (is_ascii_lowercase first && nat_lt (length others) 20)
    (list_all is_name_byte others) e in
    let front = and_parts (is_ascii_lowercase first) (nat_lt (length others) 20) whole.0 in
    rw (front.0, name_own others whole.1) refl

-- The words that values are written by: none has a blank, none is empty, and none begins with a
-- hyphen.
use Rattle.std.proofs.Common.{◌≡◌, ℕ, ◌/◌, ◌^◌, ◌<◌, ◌≤◌, Bool, true, false, List, [], ◌∷◌, ◌++◌}
use Rattle.std.proofs.Common.{length, refl, ap, ap₂, ◌∙◌, arith, lt-ltb, nat_lt, le-leb, pos}
use Rattle.std.proofs.Common.{length-append}
use Rattle.std.specs.Prelude.{◌==◌, ◌&&◌, codes, nat_le, not}
use Rattle.std.specs.Char.{digit_value, is_ascii_digit, is_ascii_graphic, is_ascii_lowercase}
use Rattle.std.specs.Fmt.{decimal}
use Rattle.std.specs.List.{list_all}
use Rattle.std.specs.Str.{bytes_eq}
use Rattle.std.specs.Str.Parse.{AllDigits, digits_value, signed_digits_value, without_leading_sign}
use Rattle.std.proofs.lemmas.Bool.{and_parts}
use Rattle.std.proofs.lemmas.Bool.Decides.{nat_tests}
use Rattle.std.proofs.lemmas.Fmt.{decimal_is_IsNumeral, decimal_nonempty, digits_decimal}
use Rattle.std.proofs.lemmas.Fmt.{length-decimal-le}
use Rattle.std.proofs.lemmas.List.Folds.{list_all-append}
use Rattle.clap.specs.ValueTests.{accepts}
use Rattle.clap.specs.declared.builder.value_parser.ValueParser.TheVariants as parser
use Rattle.ftd_cli.specs.Lines.{without_file}
use Rattle.ftd_days.specs.Calendar.{quarter_year, year_of}
use Rattle.ftd_days.specs.Digits.{AreDigits, digit, two_digits}
use Rattle.ftd_days.specs.Text.{cents_text, day_text, quarter_text}
use Rattle.ftd_days.specs.declared.limits.TheConstants.{SPELLED_END}
use Rattle.ftd_days.proofs.Numerals.{digit_range, own, rest_digits}
use Rattle.ftd_days.proofs.Years.{eq_not}
use Rattle.ftd_rules.specs.Accounts.{is_account_name, is_name_byte}
use Rattle.ftd_replies.proofs.CutLines.{is_printed, is_word}
use Rattle.ftd_replies.specs.LineRequests.{is_value}

-- ---- bytes

-- the bytes of digits
digit_bounds : (byte : ℕ) → is_ascii_digit byte ≡ true → (48 ≤ byte) × (byte ≤ 57)
digit_bounds byte e = digit_range byte [] (rw e refl)

-- a byte between these is printed, and no blank; so is a digit, which is no hyphen
graphic : (byte : ℕ) → 33 ≤ byte → byte ≤ 126 → is_ascii_graphic byte ≡ true
graphic byte l h = rw (le-leb 33 byte l, le-leb byte 126 h) refl

graphic_digit : (n : ℕ) → is_ascii_graphic (digit n) ≡ true
graphic_digit n = graphic (digit n) (omega arith) (omega arith)

no_hyphen : (n : ℕ) → not (digit n == 45) ≡ true
no_hyphen n = rw (eq_not (digit n) 45 (λ s. absurd (omega arith))) refl

-- ---- values

-- a word that is no flag
abbrev pub IsValue : List ℕ → Type 0
IsValue text = (is_word text ≡ true) × (is_value text ≡ true)

-- digits are printed bytes
graphic_digits : (ds : List ℕ) → AreDigits ds → list_all is_ascii_graphic ds ≡ true
graphic_digits [] e = refl
graphic_digits (d ∷ ds) e =
    let range = digit_range d ds e in
    rw (graphic d (omega arith) (omega arith)) (graphic_digits ds (rest_digits d ds e))

-- words of which the first is a value do not begin with the option that names a file
pub value_first : (db word : List ℕ) (words : List (List ℕ)) → is_value word ≡ true
    → without_file db (word ∷ words) ≡ word ∷ words
value_first db [] words e = cc e
value_first db (byte ∷ bytes) [] e = refl
value_first db (byte ∷ bytes) (file ∷ rest) e = rw (is_not (byte == 45) e) refl
  where
    is_not : (b : Bool) → not b ≡ true → b ≡ false
    is_not true e = cc e
    is_not false e = refl

-- a word of printed bytes that is no flag and not long
value_of_parts : (text : List ℕ) → is_printed text ≡ true → is_value text ≡ true
    → length text ≤ 31 → IsValue text
value_of_parts text p v l = (rw (p, le-leb (length text) 31 l) refl, v)

-- one digit or more is printed, and no flag
printed_digits : (ds : List ℕ) → AreDigits ds → 0 < length ds
    → (is_printed ds ≡ true) × (is_value ds ≡ true)
printed_digits [] e l = absurd (omega arith)
printed_digits (d ∷ ds) e l =
    let range = digit_range d ds e in
    (graphic_digits (d ∷ ds) e, rw (eq_not d 45 (λ s. absurd (omega arith))) refl)

-- it stays printed, and no flag, with more bytes behind it
printed_more : (text more : List ℕ) → (is_printed text ≡ true) × (is_value text ≡ true)
    → list_all is_ascii_graphic more ≡ true
    → (is_printed (text ++ more) ≡ true) × (is_value (text ++ more) ≡ true)
printed_more [] more v e = cc
printed_more (byte ∷ bytes) more v e = (
  ap₂ (λ (a b : Bool). a && b) (and_parts _ _ v.0).0
      (list_all-append is_ascii_graphic bytes more ∙ ap₂ (λ (a b : Bool). a && b)
      (and_parts _ _ v.0).1 e),
  v.1,
)

-- so is a number
printed_number : (n : ℕ) → n < 2 ^ 64
    → (is_printed (decimal n) ≡ true) × (is_value (decimal n) ≡ true)
printed_number n h =
    printed_digits (decimal n) (digits_decimal own n h) (decimal_nonempty n h)

-- a number
pub number_value : (n : ℕ) → n < 2 ^ 64 → IsValue (decimal n)
number_value n h =
    let parts = printed_number n h in
    let long = length-decimal-le 20 n (omega arith) (omega arith) h in
    value_of_parts (decimal n) parts.0 parts.1 (omega arith)

-- a day, a quarter and an amount
pub day_value : (d : ℕ) → IsValue (day_text d)
day_value d = (simp graphic_digit, no_hyphen (year_of d / 1000))

pub quarter_value : (q : ℕ) → IsValue (quarter_text q)
quarter_value q = (simp graphic_digit, no_hyphen (quarter_year q / 1000))

pub cents_value : (cents : ℕ) → cents < SPELLED_END → IsValue (cents_text cents)
cents_value cents h =
    let small : cents / 100 < 2 ^ 64 = omega arith in
    let behind : List ℕ = 46 ∷ two_digits cents in
    let parts = printed_more (decimal (cents / 100)) behind (printed_number (cents / 100) small)
    (simp graphic_digit) in
    let long = length-decimal-le 9 (cents / 100) (omega arith) (omega arith) small in
    value_of_parts (cents_text cents) parts.0 parts.1
    (omega (arith, length-append (decimal (cents / 100)) behind))

-- ---- account names

-- the bytes of an account name are printed
graphic_name : (bytes : List ℕ) → list_all is_name_byte bytes ≡ true
    → list_all is_ascii_graphic bytes ≡ true
graphic_name [] e = refl
graphic_name (byte ∷ bytes) e =
    let parts = and_parts (is_name_byte byte) (list_all is_name_byte bytes) e in
    let here = parts.0 in
    let low : 33 ≤ byte = grind (arith, nat_tests) in
    let high : byte ≤ 126 = grind (arith, nat_tests) in
    rw (graphic byte low high) (graphic_name bytes parts.1)

-- an account name
pub name_value : (name : List ℕ) → is_account_name name ≡ true → IsValue name
unfolding is_account_name
name_value [] e = cc
name_value (first ∷ others) e =
    let parts = and_parts (is_ascii_lowercase first && nat_lt (length others) 20)
    (list_all is_name_byte others) e in
    let letter = and_parts (is_ascii_lowercase first) (nat_lt (length others) 20) parts.0 in
    let bounds = and_parts (nat_le 97 first) (nat_le first 122) letter.0 in
    let from = bounds.0 in
    let to = bounds.1 in
    let low : 97 ≤ first = grind (arith, nat_tests) in
    let high : first ≤ 122 = grind (arith, nat_tests) in
    let few = letter.1 in
    let long : length others < 20 = grind (arith, nat_tests) in
    value_of_parts (first ∷ others)
    (rw (graphic first (omega arith) (omega arith)) (graphic_name others parts.1))
    (rw (eq_not first 45 (λ s. absurd (omega arith))) refl) (omega arith)

-- ---- numbers

-- digits are a numeral, with no sign
numeral_digits : (ds : List ℕ) → AllDigits 10 ds
    → list_all (λ d. nat_lt (digit_value d) 10) ds ≡ true
numeral_digits [] h = refl
numeral_digits (d ∷ ds) h = rw (lt-ltb (digit_value d) 10 h.0) (numeral_digits ds h.1)

no_minus : (ds : List ℕ) → AreDigits ds → 0 < length ds
    → without_leading_sign ds ≡ ds
no_minus [] e l = refl
no_minus (d ∷ ds) e l =
    let range = digit_range d ds e in
    rw (eq_not d 45 (λ s. absurd (omega arith)), eq_not d 43 (λ s. absurd (omega arith))) refl

no_minus_value : (ds : List ℕ) → AreDigits ds → 0 < length ds
    → signed_digits_value 10 ds ≡ pos (digits_value 10 ds)
no_minus_value [] e l = absurd (omega arith)
no_minus_value (d ∷ ds) e l =
    let range = digit_range d ds e in
    rw (eq_not d 45 (λ s. absurd (omega arith)), eq_not d 43 (λ s. absurd (omega arith))) refl

-- digits that write a number are taken by an argument whose values are such
digits_accepted : (ds : List ℕ) (n most : ℕ) → without_leading_sign ds ≡ ds
    → signed_digits_value 10 ds ≡ pos n → nat_lt 0 (length ds) ≡ true
    → list_all (λ d. nat_lt (digit_value d) 10) ds ≡ true → n < 2 ^ 63 → n ≤ most
    → accepts false (parser.Signed (pos 0) (pos most)) ds ≡ true
digits_accepted ds n most sign value some all small few =
    rw (
      value,
      sign,
      some,
      all,
      lt-ltb n (2 ^ 63) small,
      le-leb 0 n (omega arith),
      le-leb n most few,
    ) refl

-- so is a number below 2^32 as it is printed
pub number_accepted : (n : ℕ) → n < 2 ^ 32
    → accepts false (parser.Signed (pos 0) (pos 4294967295)) (decimal n) ≡ true
number_accepted n h =
    let small : n < 2 ^ 64 = omega arith in
    let are = digits_decimal own n small in
    let some = decimal_nonempty n small in
    let numeral = decimal_is_IsNumeral n small in
    digits_accepted (decimal n) n 4294967295 (no_minus (decimal n) are some)
    (no_minus_value (decimal n) are some ∙ ap pos numeral.1) (lt-ltb _ _ some)
    (numeral_digits (decimal n) numeral.0.1) (omega arith) (omega arith)

-- it is not the word `next`
no_next : (ds : List ℕ) → AreDigits ds → 0 < length ds → bytes_eq ds (codes "next") ≡ false
no_next [] e l = refl
no_next (d ∷ ds) e l =
    let range = digit_range d ds e in rw (eq_not d 110 (λ s. absurd (omega arith))) refl

pub number_other : (n : ℕ) → n < 2 ^ 32 → bytes_eq (decimal n) (codes "next") ≡ false
number_other n h =
    let small : n < 2 ^ 64 = omega arith in
    no_next (decimal n) (digits_decimal own n small) (decimal_nonempty n small)

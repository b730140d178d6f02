-- The words that a hint has for an account, a number and a quarter: each is shown as it is, and is
-- read back by the command line.
use Rattle.std.proofs.Common.{◌≡◌, ℕ, ◌/◌, ◌^◌, ◌<◌, ◌≤◌, Bool, true, false, List, [], ◌∷◌}
use Rattle.std.proofs.Common.{Option, Some, None, length, refl, ap, ◌∙◌, arith, lt-ltb, nat_lt}
use Rattle.std.proofs.Common.{cond, le-leb, pos}
use Rattle.std.specs.Prelude.{◌==◌, ◌&&◌, ◌||◌, nat_le}
use Rattle.std.specs.Char.{digit_value, is_ascii_digit, is_ascii_lowercase}
use Rattle.std.specs.Char.{is_ascii_uppercase}
use Rattle.std.specs.Fmt.{decimal}
use Rattle.std.specs.List.{list_all}
use Rattle.std.specs.Str.Parse.{AllDigits, digits_value, signed_digits_value}
use Rattle.std.specs.Str.Parse.{without_leading_sign}
use Rattle.std.proofs.lemmas.Bool.{and_parts}
use Rattle.std.proofs.lemmas.Bool.Decides.{nat_tests}
use Rattle.std.proofs.lemmas.Fmt.{decimal_is_IsNumeral, decimal_nonempty, digits_decimal}
use Rattle.std.proofs.lemmas.Fmt.{digits_value-decimal}
use Rattle.clap.specs.ValueTests.{accepts}
use Rattle.clap.specs.declared.builder.value_parser.ValueParser.TheVariants as parser
use Rattle.ftd_days.specs.Calendar.{last_day}
use Rattle.ftd_days.specs.Calendar.{quarter_year, year_of}
use Rattle.ftd_days.specs.Digits.{AreDigits, digit}
use Rattle.ftd_days.specs.Spelling.{day_of, days_of, whole_number}
use Rattle.ftd_days.specs.Text.{day_text, quarter_text}
use Rattle.ftd_days.proofs.Numerals.{digit_range, own, rest_digits}
use Rattle.ftd_days.proofs.Years.{eq_not}
use Rattle.ftd_rules.specs.Accounts.{is_account_name, is_name_byte}
use Rattle.ftd_replies.proofs.ReadBack.{day_back, no_plus}
use Rattle.ftd_replies.specs.Commands.{is_plain}
use Rattle.ftd_replies.specs.LineLaws.{IsName, IsNumber}
use Rattle.ftd_replies.specs.LineRequests.{is_value, value_as}
use Rattle.ftd_hinted.specs.Hinted.{AreDays}
use Rattle.ftd_hinted.proofs.HintWords.{is_shown}

-- ---- words

-- a word that is shown as it is, and is no flag
pub record IsWord (word : List ℕ) : Type 0 where
  pub shown : is_shown word ≡ true
  pub value : is_value word ≡ true

-- ---- plain bytes

-- where one of these three is so, one of all is
among : (d u l p q r h : Bool) → ((l || d) || h) ≡ true
    → ((((((d || u) || l) || p) || q) || r) || h) ≡ true
among true u l p q r h e = refl
among false true l p q r h e = refl
among false false true p q r h e = refl
among false false false true q r h e = refl
among false false false false true r h e = refl
among false false false false false true h e = refl
among false false false false false false h e = e

-- a byte of a name is plain, and so is a digit
plain_name : (byte : ℕ) → is_name_byte byte ≡ true → is_plain byte ≡ true
plain_name byte e =
    among (is_ascii_digit byte) (is_ascii_uppercase byte) (is_ascii_lowercase byte) (byte == 46)
    (byte == 95) (byte == 47) (byte == 45) e

plain_between : (byte : ℕ) → 48 ≤ byte → byte ≤ 57 → is_plain byte ≡ true
plain_between byte l h = rw (le-leb 48 byte l, le-leb byte 57 h) refl

plain_digit : (n : ℕ) → is_plain (digit n) ≡ true
plain_digit n = plain_between (digit n) (omega arith) (omega arith)

plain_digits : (ds : List ℕ) → AreDigits ds → list_all is_plain ds ≡ true
plain_digits [] e = refl
plain_digits (d ∷ ds) e =
    let range = digit_range d ds e in
    rw (plain_between d (omega arith) (omega arith)) (plain_digits ds (rest_digits d ds e))

-- ---- account names

plain_names : (bytes : List ℕ) → list_all is_name_byte bytes ≡ true → list_all is_plain bytes ≡ true
plain_names [] e = refl
plain_names (byte ∷ bytes) e =
    let parts = and_parts (is_name_byte byte) (list_all is_name_byte bytes) e in
    rw (plain_name byte parts.0) (plain_names bytes parts.1)

pub name_word : (name : List ℕ) → IsName name → IsWord name
unfolding is_account_name
name_word [] e = cc e
name_word (first ∷ others) e =
    let parts = and_parts (is_ascii_lowercase first && nat_lt (length others) 20)
    (list_all is_name_byte others) e in
    let letter = (and_parts (is_ascii_lowercase first) (nat_lt (length others) 20) parts.0).0 in
    let from = (and_parts (nat_le 97 first) (nat_le first 122) letter).0 in
    let low : 97 ≤ first = grind (arith, nat_tests) in
    record {
      shown = rw (plain_name first (rw letter refl)) (plain_names others parts.1);
      value = rw (eq_not first 45 (λ s. absurd (omega arith))) refl;
    }

-- ---- numbers

-- one digit or more
digits_word : (ds : List ℕ) → AreDigits ds → 0 < length ds → IsWord ds
digits_word [] e l = absurd (omega arith)
digits_word (d ∷ ds) e l =
    let range = digit_range d ds e in
    record {
      shown = plain_digits (d ∷ ds) e;
      value = rw (eq_not d 45 (λ s. absurd (omega arith))) refl;
    }

-- they have no sign
no_sign : (ds : List ℕ) → AreDigits ds → without_leading_sign ds ≡ ds
no_sign [] e = refl
no_sign (d ∷ ds) e =
    let range = digit_range d ds e in
    rw (eq_not d 45 (λ s. absurd (omega arith)), eq_not d 43 (λ s. absurd (omega arith))) refl

no_minus : (ds : List ℕ) → AreDigits ds → 0 < length ds
    → signed_digits_value 10 ds ≡ pos (digits_value 10 ds)
no_minus [] e l = absurd (omega arith)
no_minus (d ∷ ds) e l =
    let range = digit_range d ds e in
    rw (eq_not d 45 (λ s. absurd (omega arith)), eq_not d 43 (λ s. absurd (omega arith))) refl

-- digits are a numeral
numeral_digits : (ds : List ℕ) → AllDigits 10 ds
    → list_all (λ d. nat_lt (digit_value d) 10) ds ≡ true
numeral_digits [] h = refl
numeral_digits (d ∷ ds) h = rw (lt-ltb (digit_value d) 10 h.0) (numeral_digits ds h.1)

-- an argument whose values are numbers takes the text
abbrev pub is_taken : List ℕ → Bool
is_taken text = accepts false (parser.Signed (pos 0) (pos 4294967295)) text

-- so it does where digits write such a number
digits_taken : (ds : List ℕ) (n : ℕ) → without_leading_sign ds ≡ ds
    → signed_digits_value 10 ds ≡ pos n → nat_lt 0 (length ds) ≡ true
    → list_all (λ d. nat_lt (digit_value d) 10) ds ≡ true → n < 2 ^ 32 → is_taken ds ≡ true
digits_taken ds n sign value some all small =
    rw (
      value,
      sign,
      some,
      all,
      lt-ltb n (2 ^ 63) (omega arith),
      le-leb 0 n (omega arith),
      le-leb n 4294967295 (omega arith),
    ) refl

-- a number as it is printed: the command line takes it, and reads it back
pub record IsNumberWord (word : List ℕ) (number : ℕ) : Type 0 where
  pub word_is : IsWord word
  pub taken : is_taken word ≡ true
  pub spells : whole_number word ≡ Some number

pub number_word : (n : ℕ) → IsNumber n → IsNumberWord (decimal n) n
unfolding whole_number
number_word n h =
    let small : n < 2 ^ 64 = omega arith in
    let are = digits_decimal own n small in
    let some = decimal_nonempty n small in
    let numeral = decimal_is_IsNumeral n small in
    let value = digits_value-decimal own n small in
    let long : nat_lt 0 (length (decimal n)) ≡ true = lt-ltb _ _ some in
    let few : nat_lt n (2 ^ 32) ≡ true = lt-ltb _ _ h in
    record {
      word_is = digits_word (decimal n) are some;
      taken = digits_taken (decimal n) n (no_sign (decimal n) are)
          (no_minus (decimal n) are some ∙ ap pos numeral.1) long
          (numeral_digits (decimal n) numeral.0.1) h;
      spells = rw (no_plus (decimal n) are, are, long, value, few) refl;
    }

-- ---- quarters

pub quarter_word : (q : ℕ) → IsWord (quarter_text q)
quarter_word q = record {
  shown = simp plain_digit;
  value = rw (eq_not (digit (quarter_year q / 1000)) 45 (λ s. absurd (omega arith))) refl;
}

-- ---- days

pub day_word : (d : ℕ) → IsWord (day_text d)
day_word d = record {
  shown = simp plain_digit;
  value = rw (eq_not (digit (year_of d / 1000)) 45 (λ s. absurd (omega arith))) refl;
}

-- ---- values at their places

-- the text spells this, and is no flag
abbrev pub Spells : {X : Type 0} → (List ℕ → Option X) → List ℕ → X → Type 0
Spells reads text value = (is_value text ≡ true) × (reads text ≡ Some value)

-- so does a word that is read as a value
pub value_spells : {X : Type 0} (reads : List ℕ → Option X) (word : List ℕ) (x : X)
    → value_as reads word ≡ Some x → Spells reads word x
value_spells {X} reads word x e = go (is_value word) refl e
  where
    go : (b : Bool) → is_value word ≡ b → cond b (reads word) None ≡ Some x → Spells reads word x
    go true is e = (is, e)
    go false is e = cc e

-- a day as it is printed
pub day_spells : (d : ℕ) → d ≤ last_day → Spells day_of (day_text d) d
day_spells d h = ((day_word d).value, day_back d h)

-- words that are read as days
pub days_spell : (words : List (List ℕ)) (days : List ℕ) → AreDays words days
    → (list_all is_value words ≡ true) × (days_of words ≡ Some days)
days_spell [] [] e = (refl, refl)
days_spell [] (day ∷ days) e = cc e
days_spell (word ∷ words) [] e = cc e
days_spell (word ∷ words) (day ∷ days) e =
    let first : value_as day_of word ≡ Some day = cc e in
    let others : AreDays words days = cc e in
    let spells = value_spells day_of word day first in
    let more = days_spell words days others in
    (rw spells.0 more.0, rw (spells.1, more.1) refl)

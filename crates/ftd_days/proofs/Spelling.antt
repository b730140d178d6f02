-- The texts that spell days, quarters and amounts are exactly those that the functions of Spelling
-- read.
use Rattle.std.proofs.Common.{◌≡◌, ◌≢◌, ℕ, zero, suc, ◌+◌, ◌*◌, ◌<◌, ◌≤◌, inl, inr, List, [], ◌∷◌}
use Rattle.std.proofs.Common.{length, take, drop, Option, Some, None, option_map, Bool, true, false}
use Rattle.std.proofs.Common.{cond, refl, sym, ap, ◌∙◌, arith, length-take-le}
use Rattle.std.specs.Prelude.{IfSome, ◌==◌, ◌&&◌, nat_lt, nat_le}
use Rattle.std.specs.List.{prefix_len}
use Rattle.std.specs.Char.{is_ascii_digit}
use Rattle.std.specs.Str.{all_ascii_digits, bytes_eq}
use Rattle.std.proofs.lemmas.Bool.{false≢true}
use Rattle.std.proofs.lemmas.Bool.Decides.{nat_tests}
use Rattle.std.proofs.lemmas.Slice.Eq.{bytes_eq-Decides}
use Rattle.ftd_days.specs.Calendar.{last_day}
use Rattle.ftd_days.specs.Digits.{number_of}
use Rattle.ftd_days.specs.Text.{IsFraction, SpellsCents, SpellsDay, SpellsQuarter, day_text}
use Rattle.ftd_days.specs.Text.{quarter_text}
use Rattle.std.proofs.lemmas.List.{take-append-drop}
use Rattle.std.proofs.lemmas.Str.Parse.{digits_value_short}
use Rattle.ftd_days.specs.declared.cents.Cents.{Cents}
use Rattle.ftd_days.proofs.Numerals.{own, front_digits, front_within}
use Rattle.ftd_days.proofs.Spelled.{cut_out}
use Rattle.ftd_days.proofs.Years.{same_or_not, eq_same, eq_not}
use Rattle.ftd_days.specs.Spelling.{printed_among, day_of, spelled_quarter, fraction_of, cents_of}

is_equal : (a b : ℕ) → (a == b) ≡ true → a ≡ b
is_equal a b e = grind (arith, nat_tests)

-- ---- days and quarters
pub same_text : (a b : List ℕ) → bytes_eq a b ≡ true → a ≡ b
same_text a b e = (bytes_eq-Decides a b).0 e

text_same : (a b : List ℕ) → a ≡ b → bytes_eq a b ≡ true
text_same a b e = (bytes_eq-Decides a b).1 e

some_number : (a b : ℕ) → Some a ≡ Some b → a ≡ b
some_number a b e = cc

pub record IsAmong (print : ℕ → List ℕ) (n from value : ℕ) (text : List ℕ) : Type 0 where
  pub after : from ≤ value
  pub before : value < from + n
  pub printed : print value ≡ text

among_more : (print : ℕ → List ℕ) (n from value : ℕ) (text : List ℕ) (more : Option ℕ) (b : Bool)
    → bytes_eq (print from) text ≡ b → cond b (Some from) more ≡ Some value
    → (more ≡ Some value → IsAmong print n (from + 1) value text)
    → IsAmong print (suc n) from value text
among_more print n from value text more true same f h =
    let here = some_number from value f in
    record {
      after = omega arith;
      before = omega arith;
      printed = rw here at (same_text (print from) text same);
    }
among_more print n from value text more false apart f h =
    let among = h f in
    let after = among.after in
    let before = among.before in
    record { after = omega arith; before = omega arith; printed = among.printed }

among_some : (print : ℕ → List ℕ) (n from value : ℕ) (text : List ℕ)
    → printed_among print n from text ≡ Some value → IsAmong print n from value text
unfolding printed_among
among_some print zero from value text e = cc e
among_some print (suc n) from value text e =
    among_more print n from value text _ (bytes_eq (print from) text) refl e
    (λ f. among_some print n (from + 1) value text f)

among_less : (print : ℕ → List ℕ) (n from value : ℕ) (text : List ℕ) (more : Option ℕ) (b : Bool)
    → bytes_eq (print from) text ≡ b → cond b (Some from) more ≡ None
    → from ≤ value → value < from + suc n
    → (more ≡ None → from + 1 ≤ value → value < from + 1 + n → print value ≢ text)
    → print value ≢ text
among_less print n from value text more true same f l h rest = λ _. cc f
among_less print n from value text more false apart f l h rest =
    λ p. elim (same_or_not from value) [
      | inl here ↦ false≢true (sym apart ∙ text_same (print from) text (ap (λ d. print d) here ∙ p))
      | inr not ↦ rest f (omega arith) (omega arith) p
    ]

among_none : (print : ℕ → List ℕ) (n from value : ℕ) (text : List ℕ)
    → printed_among print n from text ≡ None → from ≤ value → value < from + n → print value ≢ text
unfolding printed_among
among_none print zero from value text e l h = absurd (omega arith)
among_none print (suc n) from value text e l h =
    among_less print n from value text _ (bytes_eq (print from) text) refl e l h
    (λ f a b. among_none print n (from + 1) value text f a b)

-- what day_of reads is what the text spells
pub day_spelled : (text : List ℕ) (day : ℕ) → day_of text ≡ Some day → SpellsDay text day
unfolding day_of
day_spelled text day e =
    let among = among_some (λ d. day_text d) (last_day + 1) 0 day text e in
    let before = among.before in
    record { within = omega arith; spelled = sym among.printed }

pub day_missing : (text : List ℕ) (day : ℕ) → day_of text ≡ None → SpellsDay text day → ⊥
unfolding day_of
day_missing text day e s =
    let within = s.within in
    among_none (λ d. day_text d) (last_day + 1) 0 day text e (omega arith) (omega arith)
    (sym s.spelled)

-- so of quarters
pub quarter_spelled : (text : List ℕ) (quarter : ℕ) → spelled_quarter text ≡ Some quarter
    → SpellsQuarter text quarter
unfolding spelled_quarter
quarter_spelled text quarter e =
    let among = among_some (λ q. quarter_text q) 1200 0 quarter text e in
    let before = among.before in
    record { within = omega arith; spelled = sym among.printed }

pub quarter_missing : (text : List ℕ) (quarter : ℕ) → spelled_quarter text ≡ None
    → SpellsQuarter text quarter → ⊥
unfolding spelled_quarter
quarter_missing text quarter e s =
    let within = s.within in
    among_none (λ q. quarter_text q) 1200 0 quarter text e (omega arith) (omega arith)
    (sym s.spelled)

-- a reader of what is spelled reads what the function of the text has
reads : (Spells : ℕ → Type 0) (found spelled : Option ℕ) → IfSome found Spells
    → ((value : ℕ) → Spells value → found ≡ Some value)
    → ((value : ℕ) → spelled ≡ Some value → Spells value)
    → ((value : ℕ) → spelled ≡ None → Spells value → ⊥) → found ≡ spelled
reads Spells found (Some value) spells only is not = only value (is value refl)
reads Spells None None spells only is not = refl
reads Spells (Some value) None spells only is not = absurd (not value refl spells)

pub day_read : (text : List ℕ) (found : Option ℕ) → IfSome found (λ day. SpellsDay text day)
    → ((day : ℕ) → SpellsDay text day → found ≡ Some day) → found ≡ day_of text
day_read text found spells only = reads (λ day. SpellsDay text day) found (day_of text) spells only
    (λ day e. day_spelled text day e) (λ day e s. day_missing text day e s)

pub quarter_read : (text : List ℕ) (found : Option ℕ)
    → IfSome found (λ quarter. SpellsQuarter text quarter)
    → ((quarter : ℕ) → SpellsQuarter text quarter → found ≡ Some quarter)
    → found ≡ spelled_quarter text
quarter_read text found spells only =
    reads (λ quarter. SpellsQuarter text quarter) found (spelled_quarter text) spells only
    (λ q e. quarter_spelled text q e) (λ q e s. quarter_missing text q e s)

-- ---- amounts
fraction_read : (text : List ℕ) (cents : ℕ) → fraction_of text ≡ Some cents → IsFraction text cents
fraction_read [] cents e = sym (some_number 0 cents e)
fraction_read (point ∷ digits) cents e = go (point == 46) (all_ascii_digits digits)
    (length digits == 1) (length digits == 2) refl refl refl refl e
  where
    go : (p d one two : Bool) → (point == 46) ≡ p → all_ascii_digits digits ≡ d
        → (length digits == 1) ≡ one → (length digits == 2) ≡ two
        → cond (p && d) (cond one (Some (10 * number_of digits))
        (cond two (Some (number_of digits)) None)) None ≡ Some cents
        → IsFraction (point ∷ digits) cents
    go true true true two a b c f g = (
      is_equal point 46 a,
      b,
      inl (is_equal (length digits) 1 c, sym (some_number (10 * number_of digits) cents g)),
    )
    go true true false true a b c f g = (
      is_equal point 46 a,
      b,
      inr (is_equal (length digits) 2 f, sym (some_number (number_of digits) cents g)),
    )
    go true true false false a b c f g = cc g
    go true false one two a b c f g = cc g
    go false d one two a b c f g = cc g

read_fraction : (text : List ℕ) (cents : ℕ) → IsFraction text cents → fraction_of text ≡ Some cents
read_fraction [] cents f = ap Some (sym f)
read_fraction (point ∷ digits) cents f = elim f.2 [
  | inl one ↦ rw (eq_same point 46 f.0, f.1, eq_same (length digits) 1 one.0) (ap Some (sym one.1))
  | inr two ↦ rw (
    eq_same point 46 f.0,
    f.1,
    eq_not (length digits) 1 (λ e. absurd (omega (arith, two.0))),
    eq_same (length digits) 2 two.0,
  ) (ap Some (sym two.1))
]

some_option : (o : Option ℕ) (f : ℕ → ℕ) (amount : ℕ) → option_map f o ≡ Some amount → (cents : ℕ)
    × (o ≡ Some cents) × (amount ≡ f cents)
some_option None f amount e = cc e
some_option (Some cents) f amount e = (cents, refl, sym (some_number (f cents) amount e))

-- what cents_of reads is what the text spells
pub cents_spelled : (text : List ℕ) (amount : ℕ) → cents_of text ≡ Some amount
    → SpellsCents text amount
unfolding cents_of
cents_spelled text amount e = go (nat_lt 0 (prefix_len is_ascii_digit text))
    (nat_le (prefix_len is_ascii_digit text) 9) refl refl e
  where
    go : (some few : Bool) → nat_lt 0 (prefix_len is_ascii_digit text) ≡ some
        → nat_le (prefix_len is_ascii_digit text) 9 ≡ few
        → cond (some && few)
        (option_map (λ cents. 100 * number_of (take (prefix_len is_ascii_digit text) text) + cents)
        (fraction_of (drop (prefix_len is_ascii_digit text) text))) None ≡ Some amount
        → SpellsCents text amount
    go true true a b f =
        let count = prefix_len is_ascii_digit text in
        let (cents, fraction, value) = some_option (fraction_of (drop count text))
        (λ cents. 100 * number_of (take count text) + cents) amount f in
        let within = front_within text in
        let long : length (take count text) ≡ count = length-take-le count text within in
        let some : 0 < count = grind (arith, nat_tests) in
        let few : count ≤ 9 = grind (arith, nat_tests) in
        record {
          dollars = take count text;
          fraction = drop count text;
          cents = cents;
          parts = sym (take-append-drop count text);
          are_digits = front_digits text;
          at_least_one = omega arith;
          at_most_nine = omega arith;
          is_fraction = fraction_read (drop count text) cents fraction;
          value = value;
        }
    go true false a b f = cc f
    go false few a b f = cc f

pub spelled_cents : (text : List ℕ) (amount : ℕ) → SpellsCents text amount
    → cents_of text ≡ Some amount
unfolding cents_of
spelled_cents text amount s =
    let parts = cut_out text amount s in
    let count = prefix_len is_ascii_digit text in
    let positive = parts.some in
    let nine = parts.few in
    let some : nat_lt 0 count ≡ true = grind (arith, nat_tests) in
    let few : nat_le count 9 ≡ true = grind (arith, nat_tests) in
    rw (some, few, read_fraction (drop count text) parts.cents parts.fraction)
    (ap Some (sym parts.value))

-- a reader of what the text spells reads cents_of
pub cents_read : (text : List ℕ) (found : Option Cents)
    → IfSome found (λ amount. SpellsCents text amount.0) → ((amount : ℕ) → SpellsCents text amount
    → found ≡ Some (record { 0 = amount }))
    → option_map (λ amount. amount.0) found ≡ cents_of text
cents_read text None spells only = go (cents_of text) refl
  where
    go : (o : Option ℕ) → cents_of text ≡ o → None ≡ cents_of text
    go None e = sym e
    go (Some amount) e = let found = only amount (cents_spelled text amount e) in cc
cents_read text (Some amount) spells only = sym (spelled_cents text amount.0 spells)

fraction_small : (text : List ℕ) (cents : ℕ) → IsFraction text cents → cents < 100
fraction_small [] cents f = omega arith
fraction_small (point ∷ digits) cents f = elim f.2 [
  | inl one ↦ (let small = digits_value_short own digits 1 f.1 (omega (arith, one.0)) in
      omega (arith, one.1, small))
  | inr two ↦ (let small = digits_value_short own digits 2 f.1 (omega (arith, two.0)) in
      omega (arith, two.1, small))
]

-- no amount that is read is 1,000,000,000.00 or more
pub cents_small : (text : List ℕ) (amount : ℕ) → cents_of text ≡ Some amount
    → amount < 100_000_000_000
cents_small text amount e =
    let s = cents_spelled text amount e in
    let dollars = digits_value_short own s.dollars 9 s.are_digits s.at_most_nine in
    let cents = fraction_small s.fraction s.cents s.is_fraction in
    let value = s.value in
    omega arith

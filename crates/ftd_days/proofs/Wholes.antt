-- Whole numbers and lists of days, read of texts.
use Rattle.std.proofs.Common.{◌≡◌, ℕ, suc, ◌+◌, ◌<◌, ◌^◌, List, ◌∷◌, ◌++◌, length, map, drop}
use Rattle.std.proofs.Common.{get_or, Option, Some, None, Result, Ok, Err, Bool, true, false, cond}
use Rattle.std.proofs.Common.{refl, sym, ap, ◌∙◌, arith, add-one, drop-cons}
use Rattle.std.specs.Prelude.{option_map, option_and_then, nat_lt, ◌&&◌}
use Rattle.std.specs.Result.{result_ok}
use Rattle.std.specs.Str.{all_ascii_digits}
use Rattle.std.specs.Str.Parse.{ParsesUnsigned, without_leading_plus, digits_value}
use Rattle.std.proofs.lemmas.Bool.Decides.{nat_tests}
use Rattle.ftd_days.specs.Digits.{number_of}
use Rattle.ftd_days.specs.Spelling.{day_of, days_of, whole_number}
use Rattle.ftd_days.proofs.Numerals.{own}

-- ---- a whole number
pub whole_read : {E : Type 0} (text : List ℕ) (r : Result ℕ E) → ParsesUnsigned 32 10 text r
    → result_ok r ≡ whole_number text
unfolding whole_number
whole_read text (Ok n) h =
    let digits = without_leading_plus text in
    let are = own.from digits h.0.0.1 in
    let same = own.same digits h.0.0.1 in
    let some = h.0.0.0 in
    let bound = h.0.1 in
    let a : nat_lt 0 (length digits) ≡ true = grind (arith, nat_tests) in
    let c : nat_lt (number_of digits) (2 ^ 32) ≡ true = grind (arith, nat_tests) in
    rw (a, are, c) (ap Some (h.1 ∙ sym same))
whole_read text (Err e) h = go (nat_lt 0 (length (without_leading_plus text)))
    (all_ascii_digits (without_leading_plus text)) (nat_lt (number_of (without_leading_plus text))
    (2 ^ 32)) refl refl refl
  where
    go : (some all small : Bool) → nat_lt 0 (length (without_leading_plus text)) ≡ some
        → all_ascii_digits (without_leading_plus text) ≡ all
        → nat_lt (number_of (without_leading_plus text)) (2 ^ 32) ≡ small
        → None ≡ cond (nat_lt 0 (length (without_leading_plus text)) && all_ascii_digits
        (without_leading_plus text) && nat_lt (number_of (without_leading_plus text)) (2 ^ 32))
        (Some (number_of (without_leading_plus text))) None
    go true true true a b c =
        let digits = without_leading_plus text in
        let numeral = own.to digits b in
        let same = own.same digits numeral in
        let some : 0 < length digits = grind (arith, nat_tests) in
        let small : number_of digits < 2 ^ 32 = grind (arith, nat_tests) in
        let bound : digits_value 10 digits < 2 ^ 32 = omega arith in
        absurd (h ((some, numeral), bound))
    go true true false a b c = rw (a, b, c) refl
    go true false small a b c = rw (a, b) refl
    go false all small a b c = rw a refl

-- ---- days
-- these days, and then those of the rest
abbrev pub on_front : List ℕ → Option (List ℕ) → Option (List ℕ)
on_front days rest = option_map (λ others. days ++ others) rest

pub rest_of : {X : Type 0} (words : List X) (i : ℕ) (word : X) → i < length words
    → word ≡ get_or words i word → drop i words ≡ word ∷ drop (i + 1) words
rest_of words i word within is = rw (add-one i) (drop-cons words i word within
    ∙ ap (λ w. w ∷ drop (suc i) words) (sym is))

pub no_day : {X : Type 0} (text : X → List ℕ) (words : List X) (i : ℕ) (word : X) (days : List ℕ)
    → i < length words → word ≡ get_or words i word → None ≡ day_of (text word)
    → on_front days (days_of (map text (drop i words))) ≡ None
no_day text words i word days within is e =
    ap (λ ws. on_front days (days_of (map text ws))) (rest_of words i word within is)
    ∙ ap (λ o. on_front days
    (option_and_then
    (λ d. option_map (λ others. d ∷ others) (days_of (map text (drop (i + 1) words)))) o)) (sym e)

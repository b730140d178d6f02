-- What a value but a text is written as has no byte to be escaped.
use Rattle.std.proofs.Common.{◌≡◌, ℕ, ◌/◌, ◌%◌, ◌<◌, ◌≤◌, List, [], ◌∷◌, ◌++◌, refl, ap}
use Rattle.std.proofs.Common.{◌∙◌, ap₂, arith, Bool, true, false, zero, suc, ◌==◌, inl, inr}
use Rattle.std.specs.Prelude.{Option, Some, None}
use Rattle.std.specs.Borrow.{Bor}
use Rattle.std.specs.Fmt.{decimal, digits, digits_onto, digit_glyph}
use Rattle.std.specs.List.{flat_map}
use Rattle.std.proofs.lemmas.Grind.{flat_map-append}
use Rattle.std.proofs.lemmas.Bool.{cases_eq, eq-eqb, lt-ltb, ne_eqb}
use Rattle.ftd_days.specs.Calendar.{day_of_month, month_in_year, quarter_number, quarter_year}
use Rattle.ftd_days.specs.Calendar.{year_of}
use Rattle.ftd_days.specs.Digits.{digit, two_digits, four_digits}
use Rattle.ftd_days.specs.Text.{day_text, quarter_text, cents_text}
use Rattle.ftd_rules.specs.Text.{rule_text}
use Rattle.ftd_rules.specs.Verdicts.{verdict_text}
use Rattle.ftd_rules.specs.declared.Form.{Form}
use Rattle.ftd_rules.specs.declared.Form.TheVariants.{F941, F943}
use Rattle.ftd_rules.specs.declared.Kind.{Kind}
use Rattle.ftd_rules.specs.declared.Kind.TheVariants as kind
use Rattle.ftd_rules.specs.declared.Rule.{Rule}
use Rattle.ftd_rules.specs.declared.Rule.TheVariants as rule
use Rattle.ftd_rules.specs.declared.verdict.Verdict.{Verdict}
use Rattle.ftd_rules.specs.declared.verdict.Verdict.TheVariants as verdict
use Rattle.ftd_answers.specs.Agendas.{form_number}
use Rattle.ftd_answers.specs.Fields.{as_day, as_number, or_none, shown_as, yes_no}
use Rattle.ftd_answers.specs.declared.fields.Value.{Value}
use Rattle.ftd_answers.specs.declared.fields.Value.TheVariants as value
use Rattle.ftd_answers.specs.Listings.{kind_name}
use Rattle.ftd_pages.specs.Escapes.{escaped, escaped_byte}

-- a byte and a text that stand as they are
abbrev pub Stays : List ℕ → Type 0
Stays text = flat_map escaped_byte text ≡ text

byte_stays : (b : ℕ) → 40 ≤ b → b < 60 → escaped_byte b ≡ b ∷ []
byte_stays b low high =
    let amp : (b == 38) ≡ false = ne_eqb b 38 (omega arith) in
    let lt : (b == 60) ≡ false = ne_eqb b 60 (omega arith) in
    let gt : (b == 62) ≡ false = ne_eqb b 62 (omega arith) in
    let quot : (b == 34) ≡ false = ne_eqb b 34 (omega arith) in
    let apos : (b == 39) ≡ false = ne_eqb b 39 (omega arith) in
    rw (amp, lt, gt, quot, apos) refl

-- one byte more, and one text after another
more : (b : ℕ) (text : List ℕ) → 40 ≤ b → b < 60 → Stays text → Stays (b ∷ text)
more b text low high e = ap₂ (λ x y. x ++ y) (byte_stays b low high) e

both_stay : (a b : List ℕ) → Stays a → Stays b → Stays (a ++ b)
both_stay a b e f = flat_map-append escaped_byte a b ∙ ap₂ (λ x y. x ++ y) e f

digit_more : (n : ℕ) (text : List ℕ) → Stays text → Stays (digit n ∷ text)
digit_more n text e = more (digit n) text (omega arith) (omega arith) e

letter_stays : (text : List ℕ) → Stays text → Stays (81 ∷ text)
letter_stays text e = ap (λ z. 81 ∷ z) e

-- digits
glyph_is : (n : ℕ) → digit_glyph false (n % 10) ≡ digit n
glyph_is n = rw (lt-ltb (n % 10) 10 (omega arith)) refl

onto_stays : (k n : ℕ) (text : List ℕ) → Stays text → Stays (digits_onto k 10 false n text)
onto_stays zero n text e = e
onto_stays (suc k) n text e =
    let last : Stays (digit_glyph false (n % 10) ∷ text) = rw (glyph_is n) (digit_more n text e) in
    elim (cases_eq (n / 10) 0) [
      | inl none ↦ rw (eq-eqb (n / 10) 0 none) last
      | inr some ↦ rw (ne_eqb (n / 10) 0 some) (onto_stays k (n / 10) _ last)
    ]

decimal_stays : (n : ℕ) → Stays (decimal n)
unfolding digits
decimal_stays n = onto_stays 64 n [] refl

two_stay : (n : ℕ) (text : List ℕ) → Stays text → Stays (digit (n / 10) ∷ digit n ∷ text)
two_stay n text e = digit_more (n / 10) _ (digit_more n text e)

four_stay : (n : ℕ) (text : List ℕ) → Stays text
    → Stays (digit (n / 1000) ∷ digit (n / 100) ∷ digit (n / 10) ∷ digit n ∷ text)
four_stay n text e = digit_more (n / 1000) _ (digit_more (n / 100) _ (two_stay n text e))

-- amounts, days and quarters
cents_stay : (amount : ℕ) → Stays (cents_text amount)
cents_stay amount =
    both_stay (decimal (amount / 100)) _ (decimal_stays (amount / 100))
    (more 46 _ (omega arith) (omega arith) (two_stay amount [] refl))

date_stays : (year month day : ℕ) → Stays (four_digits year ++ (45 ∷ two_digits month)
    ++ (45 ∷ two_digits day))
date_stays year month day =
    four_stay year _ (more 45 _ (omega arith) (omega arith) (two_stay month _
    (more 45 _ (omega arith) (omega arith) (two_stay day [] refl))))

quarter_stays : (quarter : ℕ) → Stays (quarter_text quarter)
quarter_stays quarter =
    let number = digit_more (quarter_number quarter) [] refl in
    four_stay (quarter_year quarter) _ (letter_stays _ number)

-- names
form_stays : (form : Form) → Stays (form_number form)
form_stays F941 = refl
form_stays F943 = refl

kind_stays : (k : Kind) → Stays (kind_name k)
kind_stays kind.Monthly = refl
kind_stays kind.Semiweekly = refl

rule_stays : (r : Rule) → Stays (rule_text r)
rule_stays rule.Monthly = refl
rule_stays rule.Semiweekly = refl
rule_stays rule.NextDay = refl

verdict_stays : (v : Verdict) → Stays (verdict_text v)
verdict_stays verdict.Met = refl
verdict_stays verdict.WithReturn = refl
verdict_stays verdict.Open = refl
verdict_stays verdict.MadeUp = refl
verdict_stays verdict.Short = refl
verdict_stays verdict.Late = refl

flag_stays : (flag : Bool) → Stays (yes_no flag)
flag_stays true = refl
flag_stays false = refl

-- a value, or none
number_stays : (number : Option ℕ) → Stays (or_none as_number number).plain
number_stays None = refl
number_stays (Some number) = decimal_stays number

day_stays : (day : ℕ) → Stays (day_text day)
day_stays day = date_stays (year_of day) (month_in_year day) (day_of_month day)

some_day_stays : (day : Option ℕ) → Stays (or_none as_day day).plain
some_day_stays None = refl
some_day_stays (Some day) = day_stays day

-- a value that is no text
pub value_stays : (v : Value) → ((text : Bor (List ℕ)) → v ≡ value.Text text → ⊥)
    → escaped (shown_as v).plain ≡ (shown_as v).plain
unfolding escaped
value_stays (value.Text text) none = absurd (none text refl)
value_stays (value.Number number) none = decimal_stays number
value_stays (value.NumberOrNone number) none = number_stays number
value_stays (value.Count count) none = decimal_stays count
value_stays (value.Amount cents) none = cents_stay cents.0
value_stays (value.Sum total) none = cents_stay total
value_stays (value.Day day) none = day_stays day
value_stays (value.DayOrNone day) none = some_day_stays day
value_stays (value.Quarter quarter) none = quarter_stays quarter
value_stays (value.Form form) none = form_stays form
value_stays (value.Kind kind) none = kind_stays kind
value_stays (value.Rule rule) none = rule_stays rule
value_stays (value.Verdict verdict) none = verdict_stays verdict
value_stays (value.Flag flag) none = flag_stays flag

-- The texts of values are made of letters, digits, hyphens and points.
use Rattle.std.proofs.Common.{◌≡◌, ◌∙◌, refl, sym, ap, ℕ, zero, suc, ◌/◌, ◌%◌, ◌≤◌, ◌==◌, ◌||◌}
use Rattle.std.proofs.Common.{◌&&◌, Bool, true, false, inl, inr, List, [], ◌∷◌, ◌++◌, length}
use Rattle.std.proofs.Common.{Option, None, Some, arith}
use Rattle.std.proofs.Common.{Some, arith}
use Rattle.std.specs.Prelude.{nat_lt}
use Rattle.std.specs.Char.{is_ascii_digit, is_ascii_lowercase, is_ascii_uppercase}
use Rattle.std.specs.Fmt.{decimal, digit_glyph, digits, digits_onto}
use Rattle.std.specs.List.{list_all, list_any}
use Rattle.std.proofs.lemmas.Bool.{cases_Bool, eqb-true, lt-ltb, true≢false, and_parts}
use Rattle.std.proofs.lemmas.Bool.Decides.{nat_tests}
use Rattle.csv.specs.Writing.{default_writer, needs_byte}
use Rattle.json.specs.Print.{escape}
use Rattle.json.proofs.Printed.Strings.{escape_byte_plain}
use Rattle.ftd_days.specs.Calendar.{year_of, month_in_year, day_of_month, quarter_year}
use Rattle.ftd_days.specs.Calendar.{quarter_number}
use Rattle.ftd_days.specs.Digits.{digit, two_digits, four_digits}
use Rattle.ftd_days.specs.Text.{day_text, cents_text, quarter_text}
use Rattle.ftd_days.proofs.Numerals.{digit_is}
use Rattle.ftd_rules.specs.Accounts.{is_name_byte, is_account_name}
use Rattle.ftd_rules.specs.Text.{rule_text}
use Rattle.ftd_rules.specs.Verdicts.{verdict_text}
use Rattle.ftd_rules.specs.declared.Form.{Form}
use Rattle.ftd_rules.specs.declared.Form.TheVariants.{F941, F943}
use Rattle.ftd_rules.specs.declared.Kind.{Kind}
use Rattle.ftd_rules.specs.declared.Kind.TheVariants as kind
use Rattle.ftd_rules.specs.declared.Rule.{Rule}
use Rattle.ftd_rules.specs.declared.Rule.TheVariants as rule
use Rattle.ftd_rules.specs.declared.verdict.Verdict.{Verdict}
use Rattle.ftd_rules.specs.declared.verdict.Verdict.TheVariants as verdict
use Rattle.ftd_machine.specs.declared.entries.ReturnPeriod.{ReturnPeriod}
use Rattle.ftd_machine.specs.declared.entries.ReturnPeriod.TheVariants.{Quarter, Year}
use Rattle.ftd_machine.specs.declared.explained.DayKind.{DayKind}
use Rattle.ftd_machine.specs.declared.explained.DayKind.TheVariants as day_kind
use Rattle.ftd_machine.specs.declared.replies.Reason.{Reason}
use Rattle.ftd_machine.specs.declared.replies.Reason.TheVariants as reason
use Rattle.ftd_answers.specs.Agendas.{form_number}
use Rattle.ftd_answers.specs.Calendars.{plain_day}
use Rattle.ftd_answers.specs.Explanations.{day_kind_name, reason_name}
use Rattle.ftd_answers.specs.Fields.{as_day, as_number, or_none, yes_no}
use Rattle.ftd_answers.specs.KeptForms.{period_shown}
use Rattle.ftd_answers.specs.Listings.{kind_name}
use Rattle.ftd_read_back.specs.Lines.{is_break}

abbrev pub is_plain : ℕ → Bool
is_plain byte = is_name_byte byte || (byte == 46 || is_ascii_uppercase byte)

abbrev pub are_plain : List ℕ → Bool
are_plain text = list_all is_plain text

-- ---- none of these bytes ends a line or calls for quotes

other_byte : (b k : ℕ) → is_plain b ≡ true → is_plain k ≡ false → (b == k) ≡ false
other_byte b k here there = elim (cases_Bool (b == k)) [
  | inl same ↦ absurd (true≢false (sym here ∙ ap is_plain (eqb-true b k same) ∙ there))
  | inr other ↦ other
]

none : (test : ℕ → Bool) → ((b : ℕ) → is_plain b ≡ true → test b ≡ false) → (text : List ℕ)
    → are_plain text ≡ true → list_any test text ≡ false
none test fails [] e = refl
none test fails (b ∷ text) e =
    let parts = and_parts (is_plain b) (are_plain text) e in
    rw (fails b parts.0, none test fails text parts.1) refl

pub unbroken : (text : List ℕ) → are_plain text ≡ true → list_any is_break text ≡ false
unbroken text e =
    none is_break (λ b plain. rw (other_byte b 13 plain refl, other_byte b 10 plain refl) refl) text
    e

pub unquoted : (text : List ℕ) → are_plain text ≡ true
    → list_any (needs_byte default_writer) text ≡ false
unquoted text e =
    none (needs_byte default_writer) (λ b plain.
    (rw (
      other_byte b 44 plain refl,
      other_byte b 34 plain refl,
      other_byte b 13 plain refl,
      other_byte b 10 plain refl,
    ) refl)) text e

pub no_space : (text : List ℕ) → are_plain text ≡ true → list_any (λ b. b == 32) text ≡ false
no_space text e = none (λ b. b == 32) (λ b plain. other_byte b 32 plain refl) text e

-- nor is one escaped
low_bound : (b : ℕ) → is_plain b ≡ true → 32 ≤ b
low_bound b e = grind (arith, nat_tests)

pub unescaped : (text : List ℕ) → are_plain text ≡ true → escape text ≡ text
unescaped [] e = refl
unescaped (b ∷ text) e =
    let parts = and_parts (is_plain b) (are_plain text) e in
    let own = escape_byte_plain b (λ (same : b ≡ 34). true≢false (sym parts.0 ∙ ap is_plain same))
    (λ (same : b ≡ 92). true≢false (sym parts.0 ∙ ap is_plain same)) (low_bound b parts.0) in
    rw (own, unescaped text parts.1) refl

-- ---- each text is made of them

both_plain : (xs ys : List ℕ) → are_plain xs ≡ true → are_plain ys ≡ true
    → are_plain (xs ++ ys) ≡ true
both_plain [] ys a b = b
both_plain (x ∷ xs) ys a b =
    let parts = and_parts (is_plain x) (are_plain xs) a in
    rw (parts.0, both_plain xs ys parts.1 b) refl

plain_digit : (b : ℕ) → is_ascii_digit b ≡ true → is_plain b ≡ true
plain_digit b e = elim (cases_Bool (is_ascii_lowercase b)) [
  | inl letter ↦ rw letter refl
  | inr other ↦ rw (other, e) refl
]

one : (n : ℕ) → is_plain (digit n) ≡ true
one n = plain_digit (digit n) (digit_is n)

-- digits in front of a text, however many there are
digits_before : (most n : ℕ) (text : List ℕ) → are_plain text ≡ true
    → are_plain (digits_onto most 10 false n text) ≡ true
digits_before zero n text e = e
digits_before (suc most) n text e =
    let glyph : digit_glyph false (n % 10) ≡ digit n =
    rw (lt-ltb (n % 10) 10 (omega arith)) refl in
    let more : are_plain (digit_glyph false (n % 10) ∷ text) ≡ true = rw (glyph, one n, e) refl in
    elim (cases_Bool (n / 10 == 0)) [
      | inl last ↦ rw last more
      | inr other ↦ rw other (digits_before most (n / 10) (digit_glyph false (n % 10) ∷ text) more)
    ]

pub plain_number : (n : ℕ) → are_plain (decimal n) ≡ true
unfolding digits
plain_number n = digits_before 64 n [] refl

plain_two : (n : ℕ) → are_plain (two_digits n) ≡ true
plain_two n = rw (one (n / 10), one n) refl

plain_four : (n : ℕ) → are_plain (four_digits n) ≡ true
plain_four n = rw (one (n / 1000), one (n / 100), one (n / 10), one n) refl

pub plain_date : (day : ℕ) → are_plain (plain_day day) ≡ true
plain_date day =
    both_plain (four_digits (year_of day) ++ two_digits (month_in_year day))
    (two_digits (day_of_month day))
    (both_plain (four_digits (year_of day)) (two_digits (month_in_year day))
    (plain_four (year_of day)) (plain_two (month_in_year day))) (plain_two (day_of_month day))

pub plain_day_text : (day : ℕ) → are_plain (day_text day) ≡ true
plain_day_text day =
    both_plain (four_digits (year_of day) ++ (45 ∷ two_digits (month_in_year day)))
    (45 ∷ two_digits (day_of_month day))
    (both_plain (four_digits (year_of day)) (45 ∷ two_digits (month_in_year day))
    (plain_four (year_of day)) (plain_two (month_in_year day))) (plain_two (day_of_month day))

pub plain_cents : (amount : ℕ) → are_plain (cents_text amount) ≡ true
plain_cents amount =
    both_plain (decimal (amount / 100)) (46 ∷ two_digits amount) (plain_number (amount / 100))
    (plain_two amount)

name_plain : (bytes : List ℕ) → list_all is_name_byte bytes ≡ true → are_plain bytes ≡ true
name_plain [] e = refl
name_plain (b ∷ bytes) e =
    let parts = and_parts (is_name_byte b) (list_all is_name_byte bytes) e in
    rw (parts.0, name_plain bytes parts.1) refl

pub plain_name : (account : List ℕ) → is_account_name account ≡ true → are_plain account ≡ true
unfolding is_account_name
plain_name [] e = absurd cc
plain_name (first ∷ others) e =
    let whole = and_parts (is_ascii_lowercase first && nat_lt (length others) 20)
    (list_all is_name_byte others) e in
    let front = and_parts (is_ascii_lowercase first) (nat_lt (length others) 20) whole.0 in
    rw (front.0, name_plain others whole.1) refl

pub plain_form : (form : Form) → are_plain (form_number form) ≡ true
plain_form F941 = refl
plain_form F943 = refl

pub plain_rule : (rule : Rule) → are_plain (rule_text rule) ≡ true
plain_rule rule.Monthly = refl
plain_rule rule.Semiweekly = refl
plain_rule rule.NextDay = refl

pub plain_verdict : (verdict : Verdict) → are_plain (verdict_text verdict) ≡ true
plain_verdict verdict.Met = refl
plain_verdict verdict.WithReturn = refl
plain_verdict verdict.Open = refl
plain_verdict verdict.MadeUp = refl
plain_verdict verdict.Short = refl
plain_verdict verdict.Late = refl

pub plain_kind : (own : Kind) → are_plain (kind_name own) ≡ true
plain_kind kind.Monthly = refl
plain_kind kind.Semiweekly = refl

pub plain_flag : (flag : Bool) → are_plain (yes_no flag) ≡ true
plain_flag true = refl
plain_flag false = refl

pub plain_quarter : (quarter : ℕ) → are_plain (quarter_text quarter) ≡ true
plain_quarter quarter =
    both_plain (four_digits (quarter_year quarter)) (81 ∷ digit (quarter_number quarter) ∷ [])
    (plain_four (quarter_year quarter)) (rw (one (quarter_number quarter)) refl)

pub plain_period : (period : ReturnPeriod) → are_plain (period_shown period).plain ≡ true
plain_period (Quarter quarter) = plain_quarter quarter
plain_period (Year year) = plain_number year

pub plain_day_or_none : (o : Option ℕ) → are_plain (or_none as_day o).plain ≡ true
plain_day_or_none None = refl
plain_day_or_none (Some day) = plain_day_text day

pub plain_number_or_none : (o : Option ℕ) → are_plain (or_none as_number o).plain ≡ true
plain_number_or_none None = refl
plain_number_or_none (Some n) = plain_number n

pub plain_reason : (own : Reason) → are_plain (reason_name own) ≡ true
plain_reason reason.Lookback = refl
plain_reason (reason.Turned turn) = refl
plain_reason reason.Carried = refl

pub plain_day_kind : (own : DayKind) → are_plain (day_kind_name own) ≡ true
plain_day_kind day_kind.Business = refl
plain_day_kind day_kind.Saturday = refl
plain_day_kind day_kind.Sunday = refl
plain_day_kind day_kind.Holiday = refl

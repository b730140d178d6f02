-- What texts of values spell.
use Rattle.std.proofs.Common.{◌≡◌, refl, ap, ℕ, ◌+◌, ◌*◌, ◌%◌, ◌/◌, ◌^◌, ◌<◌, ◌≤◌, List}
use Rattle.std.proofs.Common.{[], ◌∷◌, ◌++◌, length, take, drop, Bool, true, false, Option, None}
use Rattle.std.proofs.Common.{Some, arith}
use Rattle.std.specs.Prelude.{IfSome, option_map}
use Rattle.std.specs.Char.{is_ascii_digit}
use Rattle.std.specs.Fmt.{decimal}
use Rattle.std.specs.List.{prefix_len}
use Rattle.std.proofs.lemmas.Bool.{lt-ltb}
use Rattle.std.proofs.lemmas.Fmt.{digits_decimal, digits_value-decimal, decimal_nonempty}
use Rattle.ftd_days.specs.Calendar.{last_day, quarter_number, quarter_year}
use Rattle.ftd_days.specs.Digits.{AreDigits, digit, four_digits, number_of, two_digits}
use Rattle.ftd_days.specs.Text.{day_text, cents_text, quarter_text}
use Rattle.ftd_days.specs.declared.limits.TheConstants.{QUARTERS}
use Rattle.ftd_days.proofs.Numerals.{own, digit_is, first_digit, rest_digits, two_last}
use Rattle.ftd_rules.specs.Text.{rule_text}
use Rattle.ftd_rules.specs.Verdicts.{verdict_text}
use Rattle.ftd_rules.specs.declared.Form.{Form}
use Rattle.ftd_rules.specs.declared.Form.TheVariants.{F941, F943}
use Rattle.ftd_rules.specs.declared.Kind.{Kind}
use Rattle.ftd_rules.specs.declared.Kind.TheVariants as kind
use Rattle.ftd_rules.specs.declared.Rule.{Rule}
use Rattle.ftd_rules.specs.declared.Rule.TheVariants as rule
use Rattle.ftd_rules.specs.declared.verdict.Verdict.{Verdict}
use Rattle.ftd_rules.specs.declared.verdict.Verdict.TheVariants as verdict
use Rattle.ftd_machine.specs.declared.entries.ReturnPeriod.{ReturnPeriod}
use Rattle.ftd_machine.specs.declared.entries.ReturnPeriod.TheVariants.{Quarter, Year}
use Rattle.ftd_answers.specs.Agendas.{form_number}
use Rattle.ftd_answers.specs.Fields.{as_day, as_number, or_none, yes_no}
use Rattle.ftd_answers.specs.KeptForms.{period_shown}
use Rattle.ftd_answers.specs.Listings.{kind_name}
use Rattle.ftd_read_back.specs.Cells.{cents_read, flag_read, form_read, kind_read, number_read}
use Rattle.ftd_read_back.specs.Cells.{or_none_read, rule_read, verdict_read}
use Rattle.ftd_read_back.specs.Dates.{date_of, day_read}
use Rattle.ftd_read_back.specs.Periods.{period_of, period_read, quarter_read}
use Rattle.ftd_read_back.specs.Rows.{IsPeriodInRange}
use Rattle.ftd_read_back.proofs.Dates.{date_reread}

-- ---- days

pub day_reread : (day : ℕ) → day ≤ last_day → day_read (day_text day) ≡ Some (date_of day)
day_reread day early = date_reread day early

-- ---- numbers and amounts

pub number_reread : (n : ℕ) → n < 2 ^ 64 → number_read (decimal n) ≡ Some n
number_reread n small =
    rw (
      lt-ltb 0 (length (decimal n)) (decimal_nonempty n small),
      digits_decimal own n small,
      digits_value-decimal own n small,
    ) refl

count_front : (ds rest : List ℕ) → AreDigits ds
    → prefix_len is_ascii_digit (ds ++ 46 ∷ rest) ≡ length ds
count_front [] rest are = refl
count_front (d ∷ ds) rest are =
    rw (first_digit d ds are, count_front ds rest (rest_digits d ds are)) (omega arith)

take_front : (xs ys : List ℕ) → take (length xs) (xs ++ ys) ≡ xs
take_front [] ys = refl
take_front (x ∷ xs) ys = ap (λ zs. x ∷ zs) (take_front xs ys)

drop_front : (xs ys : List ℕ) → drop (length xs) (xs ++ ys) ≡ ys
drop_front [] ys = refl
drop_front (x ∷ xs) ys = drop_front xs ys

pub cents_reread : (amount : ℕ) → amount < 2 ^ 64 → cents_read (cents_text amount) ≡ Some amount
cents_reread amount small =
    let low : amount / 100 < 2 ^ 64 = omega arith in
    let dollars : List ℕ = decimal (amount / 100) in
    let two = two_last amount in
    let whole : 100 * (amount / 100) + amount % 100 ≡ amount = omega arith in
    rw (
      count_front dollars (two_digits amount) (digits_decimal own (amount / 100) low),
      lt-ltb 0 (length dollars) (decimal_nonempty (amount / 100) low),
      take_front dollars (46 ∷ two_digits amount),
      drop_front dollars (46 ∷ two_digits amount),
      two.0,
      two.1,
      digits_value-decimal own (amount / 100) low,
      whole,
    ) refl

-- ---- names

pub form_reread : (form : Form) → form_read (form_number form) ≡ Some form
form_reread F941 = refl
form_reread F943 = refl

pub rule_reread : (own : Rule) → rule_read (rule_text own) ≡ Some own
rule_reread rule.Monthly = refl
rule_reread rule.Semiweekly = refl
rule_reread rule.NextDay = refl

pub verdict_reread : (own : Verdict) → verdict_read (verdict_text own) ≡ Some own
verdict_reread verdict.Met = refl
verdict_reread verdict.WithReturn = refl
verdict_reread verdict.Open = refl
verdict_reread verdict.MadeUp = refl
verdict_reread verdict.Short = refl
verdict_reread verdict.Late = refl

pub kind_reread : (own : Kind) → kind_read (kind_name own) ≡ Some own
kind_reread kind.Monthly = refl
kind_reread kind.Semiweekly = refl

pub flag_reread : (flag : Bool) → flag_read (yes_no flag) ≡ Some flag
flag_reread true = refl
flag_reread false = refl

-- ---- quarters and years

pub quarter_reread : (quarter : ℕ) → quarter < QUARTERS
    → quarter_read (quarter_text quarter) ≡ Some (period_of (Quarter quarter))
quarter_reread quarter small =
    let year : ℕ = quarter_year quarter in
    let number : ℕ = quarter_number quarter in
    let a : number_of (four_digits year) ≡ year = omega arith in
    let b : number_of (digit number ∷ []) ≡ number = omega arith in
    rw (
      digit_is (year / 1000),
      digit_is (year / 100),
      digit_is (year / 10),
      digit_is year,
      digit_is number,
      a,
      b,
    ) refl

no_number : (quarter : ℕ) → number_read (quarter_text quarter) ≡ None
no_number quarter =
    let year : ℕ = quarter_year quarter in
    rw (
      digit_is (year / 1000),
      digit_is (year / 100),
      digit_is (year / 10),
      digit_is year,
    ) refl

pub period_reread : (period : ReturnPeriod) → IsPeriodInRange period
    → period_read (period_shown period).plain ≡ Some (period_of period)
period_reread (Quarter quarter) small = rw (no_number quarter) (quarter_reread quarter small)
period_reread (Year year) small = rw (number_reread year small) refl

-- ---- what may be none

some_read : {A : Type 0} (read : List ℕ → Option A) (text : List ℕ) (value : A) → 0 < length text
    → read text ≡ Some value → or_none_read read text ≡ Some (Some value)
some_read read [] value long is = absurd (omega arith)
some_read read (byte ∷ bytes) value long is = rw is refl

pub day_or_none_reread : (o : Option ℕ) → IfSome o (λ day. day ≤ last_day)
    → or_none_read day_read (or_none as_day o).plain ≡ Some (option_map date_of o)
day_or_none_reread None early = refl
day_or_none_reread (Some day) early =
    some_read day_read (day_text day) (date_of day) (omega arith) (day_reread day early)

pub number_or_none_reread : (o : Option ℕ) → IfSome o (λ n. n < 2 ^ 64)
    → or_none_read number_read (or_none as_number o).plain ≡ Some o
number_or_none_reread None small = refl
number_or_none_reread (Some n) small =
    some_read number_read (decimal n) n (decimal_nonempty n small) (number_reread n small)

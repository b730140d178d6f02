-- The pieces of a line: none has a CR or an LF inside, and how long each is at most.
use Rattle.std.proofs.Common.{◌≡◌, ℕ, ◌+◌, ◌/◌, ◌^◌, ◌<◌, ◌≤◌, ◌&&◌, true, false, inl, inr}
use Rattle.std.proofs.Common.{List, [], ◌∷◌, ◌++◌, length, length-append, arith}
use Rattle.std.specs.Prelude.{nat_lt}
use Rattle.std.specs.Char.{is_ascii_lowercase}
use Rattle.std.specs.Fmt.{decimal}
use Rattle.std.specs.List.{list_all, list_any}
use Rattle.std.proofs.lemmas.Bool.{cases_Bool, ltb-true, true≢false, and_parts}
use Rattle.std.proofs.lemmas.Fmt.{length-decimal-le}
use Rattle.ftd_days.specs.Digits.{two_digits}
use Rattle.ftd_days.specs.Text.{day_text, cents_text}
use Rattle.ftd_rules.specs.Accounts.{is_name_byte, is_account_name}
use Rattle.ftd_rules.specs.Text.{rule_text}
use Rattle.ftd_rules.specs.Verdicts.{verdict_text}
use Rattle.ftd_rules.specs.declared.Form.{Form}
use Rattle.ftd_rules.specs.declared.Form.TheVariants.{F941, F943}
use Rattle.ftd_rules.specs.declared.Rule.{Rule}
use Rattle.ftd_rules.specs.declared.Rule.TheVariants as rule
use Rattle.ftd_rules.specs.declared.verdict.Verdict.{Verdict}
use Rattle.ftd_rules.specs.declared.verdict.Verdict.TheVariants as verdict
use Rattle.ftd_answers.specs.Agendas.{form_number}
use Rattle.ftd_answers.specs.Calendars.{plain_day}
use Rattle.ftd_read_back.specs.Lines.{is_break}
use Rattle.ftd_read_back.proofs.Values.{are_plain, unbroken, plain_name, plain_date, plain_day_text}
use Rattle.ftd_read_back.proofs.Values.{plain_cents, plain_form, plain_rule, plain_verdict}

pub record Fits (most : ℕ) (piece : List ℕ) : Type 0 where
  pub clear : list_any is_break piece ≡ false
  pub short : length piece ≤ most

-- ---- one piece behind another

none_in_both : (xs ys : List ℕ) → list_any is_break xs ≡ false → list_any is_break ys ≡ false
    → list_any is_break (xs ++ ys) ≡ false
none_in_both [] ys a b = b
none_in_both (x ∷ xs) ys a b = elim (cases_Bool (is_break x)) [
  | inl breaks ↦ absurd (true≢false (rw breaks at a))
  | inr other ↦ rw other (none_in_both xs ys (rw other at a) b)
]

pub joined : (m n : ℕ) (xs ys : List ℕ) → Fits m xs → Fits n ys → Fits (m + n) (xs ++ ys)
joined m n xs ys p q = record {
  clear = none_in_both xs ys p.clear q.clear;
  short = let a = p.short in let b = q.short in omega (arith, length-append xs ys);
}

pub wider : (m n : ℕ) (xs : List ℕ) → m ≤ n → Fits m xs → Fits n xs
wider m n xs more p = record { clear = p.clear; short = let a = p.short in omega arith }

pub literal : (piece : List ℕ) → list_any is_break piece ≡ false → Fits (length piece) piece
literal piece e = record { clear = e; short = omega arith }

-- ---- each piece

value : (most : ℕ) (text : List ℕ) → are_plain text ≡ true → length text ≤ most → Fits most text
value most text plain short = record { clear = unbroken text plain; short = short }

pub day_fits : (day : ℕ) → Fits 10 (day_text day)
day_fits day = value 10 (day_text day) (plain_day_text day) (omega arith)

pub plain_day_fits : (day : ℕ) → Fits 8 (plain_day day)
plain_day_fits day = value 8 (plain_day day) (plain_date day) (omega arith)

pub cents_fit : (amount : ℕ) → amount < 2 ^ 64 → Fits 21 (cents_text amount)
cents_fit amount small =
    let long = length-append (decimal (amount / 100)) (46 ∷ two_digits amount) in
    let dollars = length-decimal-le 18 (amount / 100) (omega arith) (omega arith) (omega arith) in
    value 21 (cents_text amount) (plain_cents amount) (omega arith)

short_name : (account : List ℕ) → is_account_name account ≡ true → length account ≤ 20
unfolding is_account_name
short_name [] e = omega arith
short_name (first ∷ others) e =
    let whole = and_parts (is_ascii_lowercase first && nat_lt (length others) 20)
    (list_all is_name_byte others) e in
    let few = ltb-true (length others) 20
    (and_parts (is_ascii_lowercase first) (nat_lt (length others) 20) whole.0).1 in
    omega arith

pub name_fits : (account : List ℕ) → is_account_name account ≡ true → Fits 20 account
name_fits account e = value 20 account (plain_name account e) (short_name account e)

pub form_fits : (form : Form) → Fits 3 (form_number form)
form_fits form = value 3 (form_number form) (plain_form form) (three form)
  where
    three : (form : Form) → length (form_number form) ≤ 3
    three F941 = omega arith
    three F943 = omega arith

pub rule_fits : (own : Rule) → Fits 10 (rule_text own)
rule_fits own = value 10 (rule_text own) (plain_rule own) (ten own)
  where
    ten : (other : Rule) → length (rule_text other) ≤ 10
    ten rule.Monthly = omega arith
    ten rule.Semiweekly = omega arith
    ten rule.NextDay = omega arith

pub verdict_fits : (own : Verdict) → Fits 11 (verdict_text own)
verdict_fits own = value 11 (verdict_text own) (plain_verdict own) (eleven own)
  where
    eleven : (other : Verdict) → length (verdict_text other) ≤ 11
    eleven verdict.Met = omega arith
    eleven verdict.WithReturn = omega arith
    eleven verdict.Open = omega arith
    eleven verdict.MadeUp = omega arith
    eleven verdict.Short = omega arith
    eleven verdict.Late = omega arith

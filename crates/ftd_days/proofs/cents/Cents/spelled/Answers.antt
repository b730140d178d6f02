use Rattle.std.proofs.Common.{arith, ◌≡◌, ℕ, ap, Some, Option}
use Rattle.ftd_days.specs.declared.cents.Cents.{Cents}
use Rattle.std.proofs.lemmas.Str.Parse.{digits_value_short}
use Rattle.ftd_days.proofs.Numerals.{own, front_digits, front_within}
use Rattle.ftd_days.proofs.Spelled.{cut_out}
use Rattle.ftd_days.proofs.cents.Cents.spelled.Goals as goal

pub returns-then-count-lt1-clause-only : goal.returns-then-count-lt1-clause-only
returns-then-count-lt1-clause-only c = λ amount s.
    let parts = cut_out c.args.text.now amount s in
    let some = parts.some in
    let few = parts.few in
    absurd (omega (arith, c.digit_count-count.ensures, c.then-count-lt1.either))

pub split_at-requires : goal.split_at-requires
split_at-requires c = omega (arith, front_within c.args.text.now, c.digit_count-count.ensures)

pub returns-in_err-number-clause-only : goal.returns-in_err-number-clause-only
returns-in_err-number-clause-only c = λ amount s.
    absurd (c.in_err-number.ensures (rw (c.split_at.ensures.front, c.digit_count-count.ensures)
    (front_digits c.args.text.now)))

pub returns-in_err-fraction_of-clause-only : goal.returns-in_err-fraction_of-clause-only
returns-in_err-fraction_of-clause-only c = λ amount s.
    let parts = cut_out c.args.text.now amount s in
    let found = c.in_err-fraction_of.ensures.only parts.cents
    (rw (c.split_at.ensures.back, c.digit_count-count.ensures) parts.fraction) in
    absurd cc

pub returns-clause-found : goal.returns-clause-found
returns-clause-found c = record {
  dollars = c.split_at.result.0.now;
  fraction = c.split_at.result.1.now;
  cents = c.in_ok-fraction_of.field-0;
  parts = c.split_at.ensures.by_index.0;
  are_digits = c.in_ok-number.ensures.0;
  at_least_one = omega arith;
  at_most_nine = omega arith;
  is_fraction = c.in_ok-fraction_of.ensures.found;
  value = omega (arith, c.in_ok-number.ensures.1);
}

pub returns-clause-only : goal.returns-clause-only
returns-clause-only c = λ amount s.
    let parts = cut_out c.args.text.now amount s in
    let found = c.in_ok-fraction_of.ensures.only parts.cents
    (rw (c.split_at.ensures.back, c.digit_count-count.ensures) parts.fraction) in
    let cents : c.in_ok-fraction_of.field-0 ≡ parts.cents = cc in
    let dollars = rw (c.split_at.ensures.front, c.digit_count-count.ensures) at
    c.in_ok-number.ensures.1 in
    let value = parts.value in
    let some : ℕ → Option Cents = λ n. Some (record { 0 = n }) in
    ap some (omega arith)

pub returns-clause-small : goal.returns-clause-small
returns-clause-small c =
    let dollars = digits_value_short own c.split_at.result.0.now 9 c.in_ok-number.ensures.0
    (omega arith) in
    let cents = c.in_ok-fraction_of.ensures.small in
    omega (arith, c.in_ok-number.ensures.1)

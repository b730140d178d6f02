-- The deposit period of a day in closed form, from any first semiweekly day, and the days that
-- share it.
use Rattle.ftd_rules.specs.declared.Form.{Form}
use Rattle.std.proofs.Common.{◌≡◌, ℕ, ◌+◌, ◌≤◌, ◌↔◌, inl, inr, arith}
use Rattle.std.specs.Prelude.{nat_lt, MatchOption}
use Rattle.std.proofs.lemmas.Bool.{lt-ltb, le-ltb, cases_lt}
use Rattle.ftd_rules.specs.declared.Kind.TheVariants as kind
use Rattle.ftd_rules.specs.declared.YearLine.{YearLine}
use Rattle.ftd_rules.specs.Years.{year_last, MayBeOpen, IsDayOf, IsSemiweeklyFrom}
use Rattle.ftd_rules.specs.Periods.{SharePeriod}
use Rattle.ftd_rules.specs.Private.Years.{semiweekly_from}
use Rattle.ftd_rules.specs.Private.Walk.{period_first, period_last}
use Rattle.ftd_rules.proofs.Schedules.{cases_turn, from_none, from_turn, year_facts}
use Rattle.ftd_rules.proofs.Stated.{semiweekly_is, share_run, run_shared}
use Rattle.ftd_rules.proofs.Status.{share_is}

-- two first semiweekly days of a year tell its days apart in the same way
same_test : (line : YearLine) (from day : ℕ) → IsSemiweeklyFrom line from → IsDayOf line day
    → nat_lt day from ≡ nat_lt day (semiweekly_from line)
same_test line from day is here =
    let its = is day here in
    let own = semiweekly_is line day here.0 here.1 in
    elim (cases_lt day from) [
      | inl early ↦
          rw (lt-ltb day from early)
          (elim (cases_lt day (semiweekly_from line)) [
            | inl before ↦ rw (lt-ltb day (semiweekly_from line) before)
            | inr after ↦ absurd (let late = its.0 (own.1 after) in omega arith)
          ])
      | inr late ↦
          rw (le-ltb day from late)
          (elim (cases_lt day (semiweekly_from line)) [
            | inl before ↦ absurd (let after = own.0 (its.1 late) in omega arith)
            | inr after ↦ rw (le-ltb day (semiweekly_from line) after)
          ])
    ]

-- the day after the last monthly one is the first semiweekly one
pub day_after_last : (line : YearLine) (last : ℕ) → line.opening ≡ kind.Monthly
    → MatchOption line.turn (last ≡ year_last line.year) (λ turn. last ≡ turn)
    → last + 1 ≡ semiweekly_from line
day_after_last line last monthly is =
    elim (cases_turn line.turn) [
      | inl none ↦ let e = rw none at is in let own = from_none line monthly none in omega arith
      | inr some ↦ let e = rw some.1 at is in let own = from_turn line some.0 monthly some.1 in
          omega arith
    ]

-- the days that share the period of a day of the year
pub shared_is : (form : Form) (line : YearLine) (from day other : ℕ) → MayBeOpen line
    → IsSemiweeklyFrom line from → IsDayOf line day → IsDayOf line other
    → SharePeriod form line day other ↔ ((period_first form from day ≤ other)
    × (other ≤ period_last form from day))
shared_is form line from day other year is here there =
    let f = year_facts line.year year.0 year.1 in
    let f0 = f.0 in let f2 = f.2 in
    let h0 = here.0 in let h1 = here.1 in let t0 = there.0 in let t1 = there.1 in
    let own = share_is form from day other (omega arith) (omega arith) (omega arith)
    (omega arith) in
    let same = same_test line from day is here in
    let same_other = same_test line from other is there in (
      (λ h. (let run = share_run form line day other here there h in
          own.0 (rw (same, same_other) run))),
      (λ h. (let run = rw (same, same_other) at (own.1 h) in
          run_shared form line day other here there run)),
    )

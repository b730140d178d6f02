use Rattle.std.proofs.Common.{arith, ◌≡◌, ◌≤◌, ◌<◌, ℕ, inl, inr, sym, ◌∙◌}
use Rattle.std.specs.Prelude.{Some}
use Rattle.std.proofs.lemmas.Bool.Decides.{nat_tests}
use Rattle.ftd_days.specs.Calendar.{month_of}
use Rattle.ftd_days.specs.contracts.day.DayPartialEq.TheImpl.{eq-value}
use Rattle.ftd_rules.proofs.Schedules.{cases_turn}
use Rattle.ftd_rules.specs.declared.YearLine.{YearLine}
use Rattle.ftd_rules.specs.declared.Form.{Form}
use Rattle.ftd_rules.specs.Liability.{liability}
use Rattle.ftd_rules.specs.Periods.{IsPeriod}
use Rattle.ftd_rules.specs.Private.Years.{semiweekly_from}
use Rattle.ftd_buckets.specs.Histories.{TurnsWithin}
use Rattle.ftd_buckets.specs.Private.Turned.{IsYearChange}
use Rattle.ftd_buckets.proofs.Turns.{Shown, line_year, line_same, option_is, option_not}
use Rattle.ftd_buckets.proofs.Turns.{monthly_facts, turn_shown, turn_after, turn_stays}
use Rattle.ftd_buckets.proofs.Turns.{turn_earlier}
use Rattle.ftd_buckets.proofs.turn.turn_now.Goals as goal

-- a line that is monthly on the first day
earlier : (line : YearLine) {first from : ℕ} → first ≡ semiweekly_from line → from < first
    → from < semiweekly_from line
earlier line is less = rw is at less

-- what the sums of the period show
shown_by : {form : Form} {L M F : ℕ → ℕ → ℕ} {day a b : ℕ} (line : YearLine) {new : YearLine}
    → 2001 ≤ line.year → line.year ≤ 2098 → TurnsWithin line → IsPeriod form line a b
    → IsYearChange L M day line new → a ≤ day → day ≤ b
    → ((u t : ℕ) → a ≤ u → t ≤ b → M u t ≡ F u t) → Shown form L M F day line new a b
shown_by line begin end turns period change from to agree = record {
  change = change;
  year = (line_year line begin end turns).0;
  period = period;
  from = from;
  to = to;
  agree = agree;
}

pub first_semiweekly_day-requires-clause-turn : goal.first_semiweekly_day-requires-clause-turn
first_semiweekly_day-requires-clause-turn c =
    (line_year c.args.line.now c.requires.from c.requires.to c.requires.turn).2

pub turn_of-requires-clause-begins : goal.turn_of-requires-clause-begins
turn_of-requires-clause-begins c =
    let k : c.args.period.from < c.first_semiweekly_day.result =
    grind (arith, nat_tests, c.if-le.false, c.le.ensures) in
    let monthly = rw c.first_semiweekly_day.ensures.day at k in
    let y = line_year c.args.line.now c.requires.from c.requires.to c.requires.turn in (
      month_of c.args.period.from,
      (monthly_facts c.requires.period.0 c.args.line.now c.args.period.from c.args.period.to y.0
          c.requires.period.1 monthly).0,
    )

pub returns-then-le-clause-now : goal.returns-then-le-clause-now
returns-then-le-clause-now c = λ before after day new change from to agree.
    let k : c.first_semiweekly_day.result ≤ c.args.period.from =
    grind (arith, nat_tests, c.if-le.true, c.le.ensures) in
    let semi = rw c.first_semiweekly_day.ensures.day at k in
    let line : YearLine = c.args.line.now in
    let shown = shown_by line c.requires.from c.requires.to c.requires.turn c.requires.period.1
    change from to agree in
    line_same line new change.same change.opening (turn_earlier c.requires.period.0 before after
    (liability c.args.sums.now) day line new c.args.period.from c.args.period.to shown semi)

pub returns-then-eq-clause-now : goal.returns-then-eq-clause-now
returns-then-eq-clause-now c = λ before after day new change from to agree.
    let line : YearLine = c.args.line.now in
    let shown = shown_by line c.requires.from c.requires.to c.requires.turn c.requires.period.1
    change from to agree in
    let old : line.turn ≡ Some c.in-Some.turn = option_is eq-value.it
    (λ a b h. grind (arith, nat_tests, h)) line.turn c.in-Some.turn (sym c.eq.ensures
    ∙ c.if-eq.true) in
    line_same line new change.same change.opening
    (turn_shown c.requires.period.0 before after (liability c.args.sums.now) day line new
    c.args.period.from c.args.period.to c.in-Some.turn shown
    (earlier line c.first_semiweekly_day.ensures.day
    (grind (arith, nat_tests, c.if-le.false, c.le.ensures))) c.in-Some.ensures ∙ sym old)

pub returns-else-eq-clause-now : goal.returns-else-eq-clause-now
returns-else-eq-clause-now c = λ before after day new change from to agree.
    let line : YearLine = c.args.line.now in
    let shown = shown_by line c.requires.from c.requires.to c.requires.turn c.requires.period.1
    change from to agree in
    let now = turn_shown c.requires.period.0 before after (liability c.args.sums.now) day line new
    c.args.period.from c.args.period.to c.in-Some.turn shown
    (earlier line c.first_semiweekly_day.ensures.day
    (grind (arith, nat_tests, c.if-le.false, c.le.ensures))) c.in-Some.ensures in (
      (λ same. option_not eq-value.it (λ a. grind (arith, nat_tests)) line.turn c.in-Some.turn
          (sym c.eq.ensures ∙ c.if-eq.false) (same ∙ now)),
      now,
    )

pub returns-then-eq-2-clause-now : goal.returns-then-eq-2-clause-now
returns-then-eq-2-clause-now c = λ before after day new change from to agree.
    let line : YearLine = c.args.line.now in
    let shown = shown_by line c.requires.from c.requires.to c.requires.turn c.requires.period.1
    change from to agree in
    let old : line.turn ≡ Some c.args.period.to = option_is eq-value.it
    (λ a b h. grind (arith, nat_tests, h)) line.turn c.args.period.to (sym c.eq-in-None.ensures
    ∙ c.if-eq-2.true) in
    let after_it = turn_after c.requires.period.0 before after (liability c.args.sums.now) day line
    new c.args.period.from c.args.period.to shown
    (earlier line c.first_semiweekly_day.ensures.day
    (grind (arith, nat_tests, c.if-le.false, c.le.ensures))) c.in-None.ensures in (
      (λ same. (let late = after_it c.args.period.to (sym same ∙ old) in omega arith)),
      elim (cases_turn new.turn) [
        | inl none ↦ rw none tt
        | inr some ↦ rw some.1 (after_it some.0 some.1)
      ],
    )

pub returns-else-eq-2-clause-now : goal.returns-else-eq-2-clause-now
returns-else-eq-2-clause-now c = λ before after day new change from to agree.
    let line : YearLine = c.args.line.now in
    let shown = shown_by line c.requires.from c.requires.to c.requires.turn c.requires.period.1
    change from to agree in
    let other = option_not eq-value.it (λ a. grind (arith, nat_tests)) line.turn c.args.period.to
    (sym c.eq-in-None.ensures ∙ c.if-eq-2.false) in
    line_same line new change.same change.opening
    (turn_stays c.requires.period.0 before after (liability c.args.sums.now) day line new
    c.args.period.from c.args.period.to shown
    (earlier line c.first_semiweekly_day.ensures.day
    (grind (arith, nat_tests, c.if-le.false, c.le.ensures))) c.in-None.ensures other)

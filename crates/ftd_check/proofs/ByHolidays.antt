-- Obligations by some holidays are those by all, where these are the same in the years of which
-- they are.
use Rattle.std.proofs.Common.{◌≡◌, ◌≤◌, ℕ, List, sym, subst, arith}
use Rattle.ftd_days.specs.Business.{is_holiday}
use Rattle.ftd_days.specs.Calendar.{year_of, last_day}
use Rattle.ftd_days.specs.Holidays.{AreFew}
use Rattle.ftd_days.proofs.Months.{year_is, year_later}
use Rattle.ftd_rules.specs.declared.DaySum.{DaySum}
use Rattle.ftd_rules.specs.declared.Form.{Form}
use Rattle.ftd_rules.specs.declared.Obligation.{Obligation}
use Rattle.ftd_rules.specs.declared.YearLine.{YearLine}
use Rattle.ftd_rules.specs.Laws.{EqualHolidays}
use Rattle.ftd_rules.specs.Obligations.{AreObligations, IsObligation}
use Rattle.ftd_rules.specs.Private.Due.{IsDueBy}
use Rattle.ftd_rules.specs.Years.{AreLines}
use Rattle.ftd_rules.proofs.Covering.{within_period, line_is}
use Rattle.ftd_rules.proofs.DueDates.{due_some, due_one}
use Rattle.ftd_rules.proofs.Near.{due_near}
use Rattle.ftd_rules.proofs.Resting.{due_same, from_later}
use Rattle.ftd_rules.proofs.Schedules.{year_facts}
use Rattle.ftd_rules.proofs.Stated.{piece_owed, due_by, due_stated}
use Rattle.ftd_entries.proofs.OwedAgain.{owed_again}

module _ (form : Form) (lines : List YearLine) (sums : List DaySum) (are : AreLines sums lines)
    (some all : List ℕ) (few : AreFew all)
    (same : (day : ℕ) → 2001 ≤ year_of day → year_of day ≤ 2099
    → is_holiday all day ≡ is_holiday some day) where
  -- each day from the last one of an obligation to its due date is one of those years
  near : (o : Obligation) → IsObligation form lines sums all o → EqualHolidays o.last o.due some all
  near o owed day from to =
      let is = piece_owed form lines sums all o owed in
      let y = line_is lines sums is.line are is.open_year in
      let y0 = y.0 in let y1 = y.1 in
      let f = year_facts is.line.year y0 y1 in
      let f3 = f.3 in
      let inside = within_period form lines sums all o is in
      let i0 = inside.0 in let i1 = inside.1 in let i2 = inside.2 in
      let p1 = is.period.1 in let p2 = is.period.2 in
      let its = year_is is.line.year o.last (omega arith) (omega arith) (omega arith)
      (omega arith) in
      let close = due_near all o.rule o.last o.due few (omega arith) is.due in
      let close1 = close.1.0 in let in_days = close.1.1 in
      let low = year_later o.last day from (omega arith) in
      let high = year_later day o.due to in_days in
      same day (omega arith) (omega arith)

  last_is_day : (holidays : List ℕ) (o : Obligation) → IsObligation form lines sums holidays o
      → o.last ≤ last_day
  last_is_day holidays o owed =
      let is = piece_owed form lines sums holidays o owed in
      let y = line_is lines sums is.line are is.open_year in
      let f = year_facts is.line.year y.0 y.1 in
      let f2 = f.2 in
      let inside = within_period form lines sums holidays o is in
      let i2 = inside.2 in
      let p2 = is.period.2 in
      omega arith

  -- the due date by holidays that are equal up to it
  due_too : (o : Obligation) (due : ℕ) → o.last ≤ last_day → EqualHolidays o.last due some all
      → IsDueBy all o.rule o.last due → IsDueBy some o.rule o.last due
  due_too o due within equal is =
      let from = from_later o.rule o.last within in
      due_same all some o.rule o.last due due (λ day a b. sym (equal day (omega arith) b))
      (omega arith) is

  pub obligations_by_all : (rows : List Obligation) → AreObligations form lines sums some rows
      → AreObligations form lines sums all rows
  obligations_by_all rows h = record {
    by_first_day = h.by_first_day;
    all = λ o. (
      (λ has.
          (let by_some = (h.all o).0 has in
          let due = due_some all o.rule o.last in
          let other : Obligation = record o { due = due.0 } in
          let owed : IsObligation form lines sums all other =
          owed_again form lines sums some all o due.0 (due_stated all o.rule o.last due.0 due.1)
          by_some in
          let again : IsDueBy some o.rule o.last due.0 =
          due_too other due.0 (last_is_day some o by_some) (near other owed) due.1 in
          let one : due.0 ≡ o.due = due_one some o.rule o.last due.0 o.due again
          (due_by some o.rule o.last o.due by_some.due) in
          subst (λ (d : ℕ). IsObligation form lines sums all (record o { due = d })) one owed)),
      (λ owed.
          (let again : IsDueBy some o.rule o.last o.due =
          due_too o o.due (last_is_day all o owed) (near o owed)
          (due_by all o.rule o.last o.due owed.due) in
          (h.all o).1 (owed_again form lines sums all some o o.due
          (due_stated some o.rule o.last o.due again) owed))),
    );
  }

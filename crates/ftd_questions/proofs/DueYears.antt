-- What is due on a day or later begins in the year before that of the day, or later.
use Rattle.std.proofs.Common.{ℕ, ◌+◌, ◌-◌, ◌*◌, ◌%◌, ◌<◌, ◌≤◌, inl, inr, List, subst, arith}
use Rattle.std.proofs.lemmas.Bool.{lt-ltb, le-ltb, cases_lt}
use Rattle.ftd_days.specs.Calendar.{last_day, month_of, month_start, year_of, year_start}
use Rattle.ftd_days.specs.Holidays.{AreFew}
use Rattle.ftd_days.specs.Private.Intervals.{interval_close}
use Rattle.ftd_days.proofs.Known.{nth_in_year, on_in_year}
use Rattle.ftd_days.proofs.Months.{month_start-end, month_start-mono, year_before, year_ends}
use Rattle.ftd_days.proofs.Months.{year_is, year_long}
use Rattle.ftd_rules.specs.declared.DaySum.{DaySum}
use Rattle.ftd_rules.specs.declared.Form.{Form}
use Rattle.ftd_rules.specs.declared.Obligation.{Obligation}
use Rattle.ftd_rules.specs.declared.Rule.{Rule}
use Rattle.ftd_rules.specs.declared.Rule.TheVariants.{Monthly, Semiweekly, NextDay}
use Rattle.ftd_rules.specs.declared.YearLine.{YearLine}
use Rattle.ftd_rules.specs.Private.Due.{IsDueBy}
use Rattle.ftd_rules.specs.Private.Obligations.{IsOwedPiece}
use Rattle.ftd_rules.specs.Years.{AreLines}
use Rattle.ftd_rules.proofs.Covering.{line_is, within_period}
use Rattle.ftd_rules.proofs.Schedules.{year_facts}

-- a year from 1900 to 2198, and a day of it
module _ (holidays : List ℕ) (few : AreFew holidays) (year last : ℕ) (low : 1900 ≤ year)
    (high : year ≤ 2098) (from : year_start year ≤ last) (to : last < year_start (year + 1)) where
  is_day : last ≤ last_day
  is_day =
      let end = month_start-end in
      let top = month_start-mono (12 * (year + 1 - 1900)) 3600 (omega arith) in
      omega arith

  month_ends : month_start (month_of last + 1) ≤ year_start (year + 1)
  month_ends =
      subst (λ y. month_start (month_of last + 1) ≤ year_start (y + 1))
      (year_is year last low (omega arith) from to) (year_ends last is_day)

  closes : interval_close last ≤ last + 6
  closes =
      elim (cases_lt ((last + 5) % 7) 3) [
        | inl l ↦ rw (lt-ltb ((last + 5) % 7) 3 l) (omega arith)
        | inr m ↦ rw (le-ltb ((last + 5) % 7) 3 m) (omega arith)
      ]

  -- what is deposited for days up to it is due in its year or in the next
  pub due_soon : (rule : Rule) (due : ℕ) → IsDueBy holidays rule last due
      → due < year_start (year + 1 + 1)
  due_soon Monthly due is =
      let long = year_long (year + 1) (omega arith) in
      let ends = month_ends in
      on_in_year holidays (year + 1) (month_start (month_of last + 1) + 14) due few (omega arith)
      (omega arith) (omega arith) is
  due_soon Semiweekly due is =
      let long = year_long (year + 1) (omega arith) in
      let close = closes in
      nth_in_year holidays (year + 1) (interval_close last) 3 due few (omega arith) (omega arith)
      (omega arith) (omega arith) is
  due_soon NextDay due is =
      let long = year_long (year + 1) (omega arith) in
      nth_in_year holidays (year + 1) last 1 due few (omega arith) (omega arith) (omega arith)
      (omega arith) is

pub begins_late : (form : Form) (lines : List YearLine) (sums : List DaySum) (holidays : List ℕ)
    (o : Obligation) → AreLines sums lines → AreFew holidays
    → IsOwedPiece form lines sums holidays o → (from : ℕ) → from ≤ o.due
    → year_start (year_of from - 1) ≤ o.first
begins_late form lines sums holidays o are few h from since =
    let year = h.line.year in
    let w = within_period form lines sums holidays o h in
    let w0 = w.0 in let w1 = w.1 in let w2 = w.2 in
    let starts = h.period.1 in let ends = h.period.2 in
    let y = line_is lines sums h.line are h.open_year in
    let y0 = y.0 in let y1 = y.1 in
    let f = year_facts year y0 y1 in
    let f3 = f.3 in
    let soon = due_soon holidays few year o.last (omega arith) y1 (omega arith) (omega arith) o.rule
    o.due h.due in
    let before = year_before (year + 1) from (omega arith) (omega arith) in
    let mono = month_start-mono (12 * (year_of from - 1 - 1900)) (12 * (year - 1900)) (omega arith)
    in omega arith

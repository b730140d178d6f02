-- The holidays that were read of some years are those that the state keeps of them.
use Rattle.std.proofs.Common.{ℕ, ◌+◌, ◌≤◌, List, inl, inr, arith}
use Rattle.std.proofs.lemmas.Bool.{cases_lt}
use Rattle.ftd_days.specs.Calendar.{year_of, year_start}
use Rattle.ftd_days.proofs.Months.{year_is, year_later}
use Rattle.ftd_rules.specs.declared.Form.{Form}
use Rattle.ftd_rules.specs.declared.DaySum.{DaySum}
use Rattle.ftd_rules.specs.declared.YearLine.{YearLine}
use Rattle.ftd_rules.specs.declared.Obligation.{Obligation}
use Rattle.ftd_rules.specs.Lists.{Has}
use Rattle.ftd_rules.specs.Laws.{EqualHolidays}
use Rattle.ftd_rules.specs.Obligations.{IsObligation}
use Rattle.ftd_rules.specs.Years.{AreLines}
use Rattle.ftd_rules.proofs.Covering.{within_period, line_is}
use Rattle.ftd_rules.proofs.Near.{due_near}
use Rattle.ftd_rules.proofs.Schedules.{year_facts, year_start-mono}
use Rattle.ftd_rules.proofs.Stated.{piece_owed}
use Rattle.ftd_machine.proofs.Few.{few_in_force}
use Rattle.ftd_machine.specs.State.{State, holidays}
use Rattle.ftd_machine.specs.Sound.{IsSound}
use Rattle.ftd_posting.specs.Books.{AreHolidaysIn}

-- each day from the last one of an obligation to its due date, where the years from one on were
-- read
pub holidays_near : (s : State) → IsSound s → (form : Form) (lines : List YearLine)
    (sums : List DaySum) (read : List ℕ) (year : ℕ) (o : Obligation) → AreLines sums lines
    → ((line : YearLine) → Has lines line → year ≤ line.year → AreHolidaysIn s read line.year
    × AreHolidaysIn s read (line.year + 1))
    → year_start year ≤ o.first → IsObligation form lines sums (holidays s) o
    → EqualHolidays o.last o.due read (holidays s)
holidays_near s sound form lines sums read year o are read_of begins owed day from to =
    let is = piece_owed form lines sums (holidays s) o owed in
    let y = line_is lines sums is.line are is.open_year in
    let y0 = y.0 in let y1 = y.1 in
    let f = year_facts is.line.year y0 y1 in
    let f3 = f.3 in
    let inside = within_period form lines sums (holidays s) o is in
    let i0 = inside.0 in let i1 = inside.1 in let i2 = inside.2 in
    let p1 = is.period.1 in let p2 = is.period.2 in
    let its = year_is is.line.year o.last (omega arith) (omega arith) (omega arith) (omega arith) in
    let near = due_near (holidays s) o.rule o.last o.due (few_in_force s sound.few) (omega arith)
    is.due in
    let near1 = near.1.0 in let in_days = near.1.1 in
    let low = year_later o.last day from (omega arith) in
    let high = year_later day o.due to in_days in
    let since : year ≤ is.line.year =
    elim (cases_lt is.line.year year) [
      | inr some ↦ some
      | inl less ↦ absurd (let mono = year_start-mono (is.line.year + 1) year (omega arith) in
          omega arith)
    ] in
    let known = read_of is.line is.open_year since in
    elim (cases_lt (year_of day) (is.line.year + 1)) [
      | inl same ↦ known.0 day (omega arith)
      | inr later ↦ known.1 day (omega arith)
    ]

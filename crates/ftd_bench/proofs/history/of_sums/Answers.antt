use Rattle.std.proofs.Common.{arith, ◌≤◌, ◌<◌, ◌+◌, length}
use Rattle.std.specs.Prelude.{All}
use Rattle.std.proofs.lemmas.List.Elements.{All-weaker}
use Rattle.ftd_days.specs.Calendar.{year_of}
use Rattle.ftd_rules.specs.declared.DaySum.{DaySum}
use Rattle.ftd_rules.specs.Years.{LiesInYears}
use Rattle.ftd_rules.proofs.Histories.{lies_in_years}
use Rattle.ftd_bench.proofs.history.of_sums.Goals as goal

pub assess-requires-clause-days : goal.assess-requires-clause-days
assess-requires-clause-days c =
    let first = c.args.first in
    let lines = c.in_ok-years.years.items in
    let count = c.in_ok-years.ensures.count in
    let P : DaySum → Type 0 = λ s. (first ≤ year_of s.day)
    × (year_of s.day < first + length c.args.lookbacks.now) in
    let Q : DaySum → Type 0 = λ s. LiesInYears lines s.day in
    let within : All P c.args.sums.now = c.in_years.ensures c.if-not-in_years.false in
    let all : All Q c.args.sums.now =
    All-weaker P Q (λ s h. (let h0 = h.0 in let h1 = h.1 in
    lies_in_years first lines s.day c.in_ok-years.ensures.years (omega arith) h0 (omega arith)))
    c.args.sums.now within in
    rw c.deref.ensures.value all

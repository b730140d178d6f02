use Rattle.std.proofs.Common.{◌≡◌, ◌+◌, length}
use Rattle.ftd_rules.specs.Years.{YearsFrom, OnlyFirstCarried}
use Rattle.ftd_bench.proofs.history.years.Given as goal

abbrev pub invariant-loop-cents : goal.invariant-loop-cents
invariant-loop-cents l =
    (l.year ≡ l.first + l.cents-index) × (length l.lines.items ≡ l.cents-index)
    × YearsFrom l.first l.lines.items × OnlyFirstCarried l.lines.items

use Rattle.std.proofs.Common.{◌<◌, ◌≤◌, take}
use Rattle.ftd_rules.specs.declared.YearLine.{YearLine}
use Rattle.ftd_rules.specs.Lists.{Has}
use Rattle.ftd_repairs.proofs.reading.year_after.Given as goal

abbrev pub invariant-loop-line : goal.invariant-loop-line
invariant-loop-line l = (line : YearLine) → Has (take l.line-index l.lines) line → line.year ≤ 2098
    → line.year < l.end

use Rattle.std.proofs.Common.{◌≡◌, ◌+◌, ◌≤◌, take}
use Rattle.std.specs.List.{All}
use Rattle.ftd_rules.specs.Years.{YearsFrom}
use Rattle.ftd_store.specs.Years.{HasFittingTurn}
use Rattle.ftd_store.proofs.year_cells.check_years.Given as goal

abbrev pub invariant-loop-line : goal.invariant-loop-line
invariant-loop-line l =
    (l.year ≡ l.first + l.line-index) × (l.year ≤ 2099)
    × YearsFrom l.first (take l.line-index l.lines) × All HasFittingTurn (take l.line-index l.lines)

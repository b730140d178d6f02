use Rattle.std.proofs.Common.{◌≡◌, ◌++◌, drop}
use Rattle.ftd_store.specs.Years.{year_lines, is_carried}
use Rattle.ftd_store.proofs.year_cells.lines_of.Given as goal

abbrev pub invariant-loop-year : goal.invariant-loop-year
invariant-loop-year l = l.lines.items ++ year_lines l.carried (drop l.year-index l.years)
    ≡ year_lines (is_carried l.fn.account) l.years

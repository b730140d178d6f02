use Rattle.std.proofs.Common.{◌≡◌, ◌++◌, drop}
use Rattle.ftd_entries.specs.Totals.{figures_found}
use Rattle.ftd_entries.proofs.lookbacks.figures_found.Given as goal

-- the figures so far, with those that are still to come, are all of them
abbrev pub invariant-loop-quarter : goal.invariant-loop-quarter
invariant-loop-quarter l = l.figures.items ++ figures_found (drop l.quarter-index l.fn.found)
    ≡ figures_found l.fn.found

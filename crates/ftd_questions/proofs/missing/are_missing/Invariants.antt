use Rattle.std.proofs.Common.{◌≡◌, ◌++◌, drop}
use Rattle.ftd_questions.specs.Missing.{are_missing}
use Rattle.ftd_questions.proofs.missing.are_missing.Given as goal

-- the quarters so far, with those that are still to come, are all of them
abbrev pub invariant-loop-quarter : goal.invariant-loop-quarter
invariant-loop-quarter l = l.quarters.items ++ are_missing l.first (drop l.quarter-index l.found)
    ≡ are_missing l.first l.found

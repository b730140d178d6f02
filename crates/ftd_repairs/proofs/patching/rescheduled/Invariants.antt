use Rattle.std.proofs.Common.{◌≡◌, take}
use Rattle.ftd_rules.specs.declared.YearLine.{YearLine}
use Rattle.ftd_rules.specs.Lists.{Has}
use Rattle.ftd_repairs.proofs.patching.rescheduled.Given as goal

abbrev pub invariant-loop-other : goal.invariant-loop-other
invariant-loop-other l = (other : YearLine) → Has (take l.other-index l.changed) other
    → other.year ≡ l.line.year → ⊥

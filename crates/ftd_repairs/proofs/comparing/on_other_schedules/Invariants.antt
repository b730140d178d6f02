use Rattle.std.proofs.Common.{take}
use Rattle.ftd_rules.specs.Lists.{KeysRise}
use Rattle.ftd_machine.specs.History.{year_of_line}
use Rattle.ftd_machine.specs.Posting.{AreOnOtherSchedules}
use Rattle.ftd_repairs.proofs.comparing.on_other_schedules.Given as goal

abbrev pub invariant-loop-line : goal.invariant-loop-line
invariant-loop-line l = KeysRise year_of_line l.after
    → AreOnOtherSchedules l.before (take l.line-index l.after) l.years.items

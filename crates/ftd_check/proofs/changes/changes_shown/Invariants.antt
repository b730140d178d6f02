use Rattle.std.proofs.Common.{◌≡◌, map, take}
use Rattle.ftd_sound.specs.Days.{change_in}
use Rattle.ftd_check.specs.Private.DayRows.{change_shown}
use Rattle.ftd_check.proofs.changes.changes_shown.Given as goal

abbrev pub invariant-loop-change : goal.invariant-loop-change
invariant-loop-change l =
    map change_in l.shown.items ≡ map change_shown (take l.change-index l.changes)

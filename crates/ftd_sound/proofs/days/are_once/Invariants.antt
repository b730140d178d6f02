use Rattle.std.proofs.Common.{length}
use Rattle.ftd_machine.specs.Sound.{AreDistinct}
use Rattle.ftd_sound.specs.Private.Calendars.{day_itself}
use Rattle.ftd_sound.proofs.Distinct.{DecidedBy}
use Rattle.ftd_sound.proofs.days.are_once.Given as goal

-- those that are left decide
abbrev pub invariant-loop-first : goal.invariant-loop-first
invariant-loop-first l = DecidedBy (AreDistinct day_itself l.days) (AreDistinct day_itself l.left)

abbrev pub decreases-loop-first : goal.decreases-loop-first
decreases-loop-first l = length l.left

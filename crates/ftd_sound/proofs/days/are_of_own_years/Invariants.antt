use Rattle.std.proofs.Common.{length}
use Rattle.ftd_machine.specs.Sound.{AreDistinct}
use Rattle.ftd_sound.specs.Private.Calendars.{year_of_given}
use Rattle.ftd_sound.proofs.Distinct.{DecidedBy}
use Rattle.ftd_sound.proofs.days.are_of_own_years.Given as goal

-- those that are left decide
abbrev pub invariant-loop-first : goal.invariant-loop-first
invariant-loop-first l = DecidedBy (AreDistinct year_of_given l.calendars) (AreDistinct year_of_given l.left)

abbrev pub decreases-loop-first : goal.decreases-loop-first
decreases-loop-first l = length l.left

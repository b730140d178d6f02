use Rattle.std.proofs.Common.{sym, ◌∙◌}
use Rattle.ftd_machine.specs.Sound.{AreDistinct}
use Rattle.ftd_sound.specs.Private.Calendars.{year_of_given}
use Rattle.ftd_sound.proofs.Distinct.{once_rest, once_fails}
use Rattle.ftd_sound.proofs.days.are_of_own_years.Goals as goal

pub returns-then-is_given : goal.returns-then-is_given
returns-then-is_given c =
    once_fails year_of_given c.loop-first.left.now c.in-Some.first.now c.in-Some.rest.now
    c.in-Some.ensures.cases.0 (AreDistinct year_of_given c.args.calendars.now) c.loop-first.invariant
    (sym c.is_given.ensures ∙ c.if-is_given.true)

pub loop-first-preserved : goal.loop-first-preserved
loop-first-preserved c =
    once_rest year_of_given c.loop-first.left.now c.in-Some.first.now c.in-Some.rest.now
    c.in-Some.ensures.cases.0 (AreDistinct year_of_given c.args.calendars.now) c.loop-first.invariant
    (sym c.is_given.ensures ∙ c.if-is_given.false)

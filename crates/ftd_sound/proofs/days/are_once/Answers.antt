use Rattle.std.proofs.Common.{sym, ◌∙◌}
use Rattle.ftd_machine.specs.Sound.{AreDistinct}
use Rattle.ftd_sound.specs.Private.Calendars.{day_itself}
use Rattle.ftd_sound.proofs.Distinct.{once_rest, once_fails}
use Rattle.ftd_sound.proofs.days.are_once.Goals as goal

pub returns-then-is_among : goal.returns-then-is_among
returns-then-is_among c =
    once_fails day_itself c.loop-first.left.now c.in-Some.first.now c.in-Some.rest.now
    c.in-Some.ensures.cases.0 (AreDistinct day_itself c.args.days.now) c.loop-first.invariant
    (sym c.is_among.ensures ∙ c.if-is_among.true)

pub loop-first-preserved : goal.loop-first-preserved
loop-first-preserved c =
    once_rest day_itself c.loop-first.left.now c.in-Some.first.now c.in-Some.rest.now
    c.in-Some.ensures.cases.0 (AreDistinct day_itself c.args.days.now) c.loop-first.invariant
    (sym c.is_among.ensures ∙ c.if-is_among.false)

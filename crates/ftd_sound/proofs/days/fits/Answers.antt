use Rattle.std.proofs.Common.{◌∙◌, subst, ℕ, List, None}
use Rattle.ftd_machine.specs.Checks.{Passes}
use Rattle.ftd_machine.specs.Requests.{calendar_checks}
use Rattle.ftd_sound.proofs.Checked.{calendar_passes}
use Rattle.ftd_sound.proofs.days.fits.Goals as goal

pub returns : goal.returns
returns c =
    let year = c.args.calendar.now.year in
    c.is_ok.ensures.value
    ∙ calendar_passes year c.args.calendar.now.days.items c.calendar_check.result
    (subst (λ (days : List ℕ). Passes (calendar_checks year days None) c.calendar_check.result)
    c.deref.ensures.value c.calendar_check.ensures)

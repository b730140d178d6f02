use Rattle.std.proofs.Common.{◌≡◌, drop}
use Rattle.ftd_machine.specs.State.{latest}
use Rattle.ftd_sound.specs.Private.Plain.{amounts_under}
use Rattle.ftd_sound.proofs.figures.latest.Given as goal

abbrev pub invariant-loop-correction : goal.invariant-loop-correction
invariant-loop-correction l =
    latest l.cents (amounts_under l.key (drop l.correction-index l.corrected))
    ≡ latest l.fn.first (amounts_under l.key l.corrected)

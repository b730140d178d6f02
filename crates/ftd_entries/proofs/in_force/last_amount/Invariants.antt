use Rattle.std.proofs.Common.{◌≡◌, drop}
use Rattle.ftd_machine.specs.State.{latest}
use Rattle.ftd_entries.specs.Known.{amounts_of}
use Rattle.ftd_entries.proofs.in_force.last_amount.Given as goal

abbrev pub invariant-loop-correction : goal.invariant-loop-correction
invariant-loop-correction l =
    latest l.cents (amounts_of (drop l.correction-index l.corrections))
    ≡ latest l.initial.cents (amounts_of l.corrections)

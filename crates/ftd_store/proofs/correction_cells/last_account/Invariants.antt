use Rattle.std.proofs.Common.{◌≡◌, drop}
use Rattle.ftd_store.specs.CorrectionRows.{last_account}
use Rattle.ftd_store.proofs.correction_cells.last_account.Given as goal

abbrev pub invariant-loop-correction : goal.invariant-loop-correction
invariant-loop-correction l =
    last_account l.account (drop l.correction-index l.corrections)
    ≡ last_account l.initial.account l.corrections

use Rattle.std.proofs.Common.{◌≡◌, map, take}
use Rattle.ftd_journal.specs.Parts.{account_correction}
use Rattle.ftd_journal.proofs.enrolment.account_corrections.Given as goal

abbrev pub invariant-loop-row : goal.invariant-loop-row
invariant-loop-row l =
    l.given.items ≡ map (account_correction l.name) (take l.row-index l.rows)

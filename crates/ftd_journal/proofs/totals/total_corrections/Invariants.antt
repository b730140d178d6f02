use Rattle.std.proofs.Common.{◌≡◌, map, take}
use Rattle.ftd_journal.specs.Parts.{total_correction}
use Rattle.ftd_journal.proofs.totals.total_corrections.Given as goal

abbrev pub invariant-loop-row : goal.invariant-loop-row
invariant-loop-row l =
    l.given.items ≡ map (total_correction l.name l.period) (take l.row-index l.rows)

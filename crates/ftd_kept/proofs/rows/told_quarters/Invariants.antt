use Rattle.std.proofs.Common.{◌≡◌, map, take}
use Rattle.ftd_kept.specs.Kept.{kept_quarter}
use Rattle.ftd_kept.proofs.rows.told_quarters.Given as goal

abbrev pub invariant-loop-row : goal.invariant-loop-row
invariant-loop-row l = l.totals.items ≡ map kept_quarter (take l.row-index l.rows)

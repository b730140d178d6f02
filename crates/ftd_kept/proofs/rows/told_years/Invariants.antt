use Rattle.std.proofs.Common.{◌≡◌, map, take}
use Rattle.ftd_kept.specs.Kept.{kept_year}
use Rattle.ftd_kept.proofs.rows.told_years.Given as goal

abbrev pub invariant-loop-row : goal.invariant-loop-row
invariant-loop-row l = l.totals.items ≡ map kept_year (take l.row-index l.rows)

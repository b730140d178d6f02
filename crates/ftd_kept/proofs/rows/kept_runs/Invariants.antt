use Rattle.std.proofs.Common.{◌≡◌, map, take}
use Rattle.ftd_kept.specs.Kept.{kept_run}
use Rattle.ftd_kept.proofs.rows.kept_runs.Given as goal

abbrev pub invariant-loop-row : goal.invariant-loop-row
invariant-loop-row l = l.runs.items ≡ map kept_run (take l.row-index l.rows)

use Rattle.std.proofs.Common.{◌≡◌, take}
use Rattle.std.specs.Prelude.{filter}
use Rattle.ftd_repairs.specs.Placing.{begins}
use Rattle.ftd_repairs.proofs.placing.rows_at.Given as goal

abbrev pub invariant-loop-row : goal.invariant-loop-row
invariant-loop-row l =
    l.some.items ≡ filter (begins l.place l.patch.from l.patch.to) (take l.row-index l.rows)

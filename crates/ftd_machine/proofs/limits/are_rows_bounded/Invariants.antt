use Rattle.std.proofs.Common.{◌≡◌, ◌<◌, ◌+◌, drop}
use Rattle.std.specs.List.{sum_by}
use Rattle.ftd_rules.specs.declared.TheConstants.{AMOUNTS_END}
use Rattle.ftd_rules.specs.Verdicts.{amount_of}
use Rattle.ftd_machine.proofs.limits.are_rows_bounded.Given as goal

abbrev pub invariant-loop-row : goal.invariant-loop-row
invariant-loop-row l = record {
  below : l.total < AMOUNTS_END;
  left : l.total + sum_by amount_of (drop l.row-index l.rows) ≡ sum_by amount_of l.rows;
}

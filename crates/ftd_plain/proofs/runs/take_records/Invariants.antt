use Rattle.std.proofs.Common.{◌+◌, length}
use Rattle.std.specs.BTreeMap.{IsOrdered}
use Rattle.std.specs.Ordering.{nat_cmp}
use Rattle.ftd_csv.specs.Places.{CanAdvance, number_of, rows_after}
use Rattle.ftd_plain.specs.Taking.{HasTaken, runs_left}
use Rattle.ftd_plain.proofs.runs.take_records.Given as goal

-- the records up to the one at which the reader stands are taken
abbrev pub invariant-loop-runs : goal.invariant-loop-runs
invariant-loop-runs l = record {
  can : CanAdvance l.records;
  ordered : IsOrdered nat_cmp l.runs;
  taken : HasTaken l.account l.year (runs_left l.fn.records) (runs_left l.records)
      (number_of l.records + 1) l.runs.entries;
}

abbrev pub decreases-loop-runs : goal.decreases-loop-runs
decreases-loop-runs l = length (rows_after l.records)

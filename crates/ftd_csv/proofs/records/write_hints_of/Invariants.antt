use Rattle.std.proofs.Common.{length}
use Rattle.ftd_csv.specs.Places.{CanAdvance, rows_after}
use Rattle.ftd_ports.proofs.WritingFacts.{HasWritten}
use Rattle.ftd_csv.specs.HintPlaces.{hints_left}
use Rattle.ftd_csv.proofs.records.write_hints_of.Given as goal

abbrev pub invariant-loop-left : goal.invariant-loop-left
invariant-loop-left g l = record {
  can : CanAdvance l.records;
  written : HasWritten (g.W.Target.taken l.fn.target) (g.W.Target.taken l.target)
      (hints_left l.most l.fn.records) (hints_left l.left l.records);
}

abbrev pub decreases-loop-left : goal.decreases-loop-left
decreases-loop-left g l = length (rows_after l.records)

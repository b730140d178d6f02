use Rattle.std.proofs.Common.{◌≡◌, ◌<◌, ◌≤◌, drop, length}
use Rattle.ftd_program.specs.RecordNotes.{of_kind}
use Rattle.ftd_program.proofs.record_notes.are_few.Given as goal

abbrev pub invariant-loop-i : goal.invariant-loop-i
invariant-loop-i l = record {
  inside : l.i ≤ length l.records;
  counted : l.count ≡ length (of_kind l.kind (drop l.i l.records));
  few : l.count < 20;
}

abbrev pub decreases-loop-i : goal.decreases-loop-i
decreases-loop-i l = l.i

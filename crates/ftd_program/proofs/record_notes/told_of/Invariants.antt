use Rattle.std.proofs.Common.{◌≡◌, ◌++◌, drop, take}
use Rattle.ftd_program.specs.RecordNotes.{records_in, told_after, told_of}
use Rattle.ftd_program.proofs.record_notes.told_of.Given as goal

abbrev pub invariant-loop-i : goal.invariant-loop-i
invariant-loop-i l =
    records_in l.told.items ++ told_after (take l.i l.records) (drop l.i l.records)
    ≡ told_of l.records

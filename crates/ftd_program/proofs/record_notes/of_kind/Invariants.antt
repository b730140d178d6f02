use Rattle.std.proofs.Common.{◌≡◌, take}
use Rattle.ftd_program.specs.RecordNotes.{of_kind, records_in}
use Rattle.ftd_program.proofs.record_notes.of_kind.Given as goal

abbrev pub invariant-loop-it : goal.invariant-loop-it
invariant-loop-it l = records_in l.those.items ≡ of_kind l.kind (take l.it-index l.records)

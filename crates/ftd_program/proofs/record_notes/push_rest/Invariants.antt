use Rattle.std.proofs.Common.{◌≡◌, ◌++◌, ◌-◌}
use Rattle.std.specs.List.{flat_map, range_with_len}
use Rattle.ftd_program.specs.RecordNotes.{more_of_kind}
use Rattle.ftd_program.proofs.record_notes.push_rest.Given as goal

abbrev pub invariant-loop-kind : goal.invariant-loop-kind
invariant-loop-kind l =
    l.lines.items ≡ l.fn.lines.items
    ++ flat_map (more_of_kind l.records) (range_with_len 1 (l.kind - 1))

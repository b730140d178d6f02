use Rattle.std.proofs.Common.{◌≡◌, ◌++◌, map, take}
use Rattle.sqlite.specs.State.{HasCleanDisk}
use Rattle.ftd_machine.specs.State.{State}
use Rattle.ftd_desk.specs.Desks.{KeepsIfOpen, held}
use Rattle.ftd_desk.specs.Telling.{StandsAsBefore}
use Rattle.ftd_program.specs.RecordNotes.{record_line, records_in}
use Rattle.ftd_program.proofs.record_notes.push_records.Given as goal

abbrev pub invariant-loop-it : goal.invariant-loop-it
invariant-loop-it g l = record {
  stands : StandsAsBefore (held g.S.Store l.fn.desk) (held g.S.Store l.desk);
  pushed : HasCleanDisk (held g.S.Store l.desk).db
      → (s : State) → KeepsIfOpen (held g.S.Store l.fn.desk) s
      → l.lines.items ≡ l.fn.lines.items
      ++ map (record_line s) (records_in (take l.it-index l.records));
}

use Rattle.std.proofs.Common.{◌≡◌, drop}
use Rattle.ftd_program.specs.AddedNotes.{earliest}
use Rattle.ftd_program.proofs.added_notes.earliest.Given as goal

abbrev pub invariant-loop-row : goal.invariant-loop-row
invariant-loop-row l = earliest l.due (drop l.row-index l.rows) ≡ earliest l.fn.day l.rows

use Rattle.std.proofs.Common.{refl}
use Rattle.ftd_ports.proofs.WritingFacts.{begins, goes_on, stops_in, stops_after}
use Rattle.ftd_program.specs.Summaries.{summary_text}
use Rattle.ftd_program.proofs.Notes.{note_on}
use Rattle.ftd_program.proofs.summaries.write_summary.Goals as goal

pub returns-in_err-write_counts : goal.returns-in_err-write_counts
unfolding summary_text
returns-in_err-write_counts g c = stops_in _ c.from_residual.ensures.0 c.in_err-write_counts.ensures

pub loop-note-init : goal.loop-note-init
unfolding summary_text
loop-note-init g c =
    record { written = goes_on _ _ begins refl c.in_ok-write_counts.ensures.ok }

pub returns-in_err-write_note : goal.returns-in_err-write_note
returns-in_err-write_note g c =
    stops_after _ c.from_residual-in_err-write_note.ensures.0 c.loop-note.invariant.written
    (rw c.deref-note-items.ensures.value at (note_on c.deref-note-items.result.now
    c.loop-note.note-index c.note-item.result c.loop-note-test.true c.note-item.is))
    c.in_err-write_note.ensures

pub loop-note-preserved : goal.loop-note-preserved
loop-note-preserved g c = record {
  written = goes_on _ _ c.loop-note.invariant.written
      (rw c.deref-note-items.ensures.value at
      (note_on c.deref-note-items.result.now c.loop-note.note-index c.note-item.result
      c.loop-note-test.true c.note-item.is)) c.in_ok-write_note.ensures.ok;
}

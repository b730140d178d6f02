use Rattle.std.proofs.Common.{drop}
use Rattle.std.specs.List.{flat_map}
use Rattle.ftd_ports.proofs.WritingFacts.{HasWritten}
use Rattle.ftd_program.specs.Summaries.{note_text, summary_text}
use Rattle.ftd_program.proofs.summaries.write_summary.Given as goal

abbrev pub invariant-loop-note : goal.invariant-loop-note
invariant-loop-note g l = record {
  written : HasWritten (g.W.Target.taken l.fn.target) (g.W.Target.taken l.target)
      (summary_text l.summary) (flat_map note_text (drop l.note-index l.summary.notes.items));
}

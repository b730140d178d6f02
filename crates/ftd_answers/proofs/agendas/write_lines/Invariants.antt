use Rattle.std.proofs.Common.{◌++◌, drop}
use Rattle.std.specs.List.{sum_by, flat_map}
use Rattle.ftd_answers.specs.Agendas.{agenda_line, left_cents, left_line, lines_text}
use Rattle.ftd_ports.proofs.WritingFacts.{HasWritten}
use Rattle.ftd_answers.proofs.agendas.write_lines.Given as goal

-- what is left to write: the lines of the other rows and the last line
abbrev pub invariant-loop-row : goal.invariant-loop-row
invariant-loop-row g l =
    HasWritten (g.W.Target.taken l.fn.target) (g.W.Target.taken l.target) (lines_text l.rows)
    (flat_map agenda_line (drop l.row-index l.rows) ++ left_line (sum_by left_cents l.rows))

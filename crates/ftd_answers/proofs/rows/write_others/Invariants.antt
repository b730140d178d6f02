use Rattle.std.proofs.Common.{drop, ◌∷◌}
use Rattle.std.specs.List.{flat_map}
use Rattle.ftd_ports.proofs.WritingFacts.{HasWritten}
use Rattle.ftd_answers.specs.Fields.{comma}
use Rattle.ftd_answers.proofs.rows.write_others.Given as goal

-- what is left to write: the texts of the other rows, with a comma before each
abbrev pub invariant-loop-row : goal.invariant-loop-row
invariant-loop-row g l =
    HasWritten (g.W.Target.taken l.fn.target) (g.W.Target.taken l.target)
    (flat_map (λ row. comma ∷ g.F.RowFormat.row_text l.format row) l.rows)
    (flat_map (λ row. comma ∷ g.F.RowFormat.row_text l.format row) (drop l.row-index l.rows))

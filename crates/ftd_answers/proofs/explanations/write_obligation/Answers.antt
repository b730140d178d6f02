use Rattle.std.proofs.Common.{subst}
use Rattle.ftd_ports.specs.Writing.{Writes}
use Rattle.ftd_answers.specs.Explanations.{obligation_line}
use Rattle.ftd_answers.proofs.LineParts.{obligation_parts}
use Rattle.ftd_answers.proofs.explanations.write_obligation.Goals as goal

pub returns : goal.returns
unfolding obligation_line
returns g c =
    subst (Writes _ _ _ _) (obligation_parts c.amount_column-amount.result c.day_bytes.ensures
    c.day_bytes-2.ensures c.rule_column.ensures c.amount_column-amount.ensures
    c.day_bytes-3.ensures) c.write_pieces.ensures

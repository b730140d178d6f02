use Rattle.std.proofs.Common.{subst}
use Rattle.ftd_ports.specs.Writing.{Writes}
use Rattle.ftd_answers.specs.Explanations.{payday_line}
use Rattle.ftd_answers.proofs.LineParts.{payday_parts}
use Rattle.ftd_answers.proofs.explanations.ColumnsRowFormatRunningSum.write_row.Goals as goal

pub returns : goal.returns
unfolding payday_line
returns g c =
    subst (Writes _ _ _ _) (payday_parts c.amount_column-amount.result
    c.amount_column-total.result c.day_bytes.ensures c.amount_column-amount.ensures
    c.amount_column-total.ensures) c.write_pieces.ensures

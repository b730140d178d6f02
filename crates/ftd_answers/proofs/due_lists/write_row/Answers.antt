use Rattle.std.proofs.Common.{subst}
use Rattle.ftd_ports.specs.Writing.{Writes}
use Rattle.ftd_answers.specs.DueLists.{due_line}
use Rattle.ftd_answers.proofs.LineFacts.{row_parts}
use Rattle.ftd_answers.proofs.due_lists.write_row.Goals as goal

pub returns : goal.returns
unfolding due_line
returns g c =
    subst (Writes _ _ _ _) (row_parts c.amount_column-amount.result c.amount_column-paid.result
    c.day_bytes.ensures c.day_bytes-2.ensures c.rule_column.ensures c.amount_column-amount.ensures
    c.day_bytes-3.ensures c.day_bytes-4.ensures c.amount_column-paid.ensures
    c.verdict_name.ensures) c.write_pieces.ensures

use Rattle.std.proofs.Common.{subst, ◌∙◌}
use Rattle.ftd_ports.specs.Writing.{Writes}
use Rattle.ftd_answers.specs.Listings.{payment_line}
use Rattle.ftd_answers.proofs.LineParts.{payment_parts}
use Rattle.ftd_answers.proofs.lines.ColumnsRowFormatKeptPayment.write_row.Goals as goal

pub returns : goal.returns
unfolding payment_line
returns g c =
    subst (Writes _ _ _ _) (payment_parts c.amount_column-amount.result c.day_bytes.ensures
    c.amount_column-amount.ensures c.day_bytes-2.ensures c.held_text.ensures
    (c.as_bytes-number.ensures.value ∙ c.format.ensures.text) c.void_end.ensures)
    c.write_pieces.ensures

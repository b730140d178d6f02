use Rattle.std.proofs.Common.{subst}
use Rattle.ftd_ports.specs.Writing.{Writes}
use Rattle.ftd_answers.specs.Unapplied.{money_text}
use Rattle.ftd_answers.proofs.LineParts.{money_parts}
use Rattle.ftd_answers.proofs.unapplied.write_money.Goals as goal

pub returns : goal.returns
unfolding money_text
returns g c =
    subst (Writes _ _ _ _) (money_parts c.amount_column-amount.result c.amount_column-paid.result
    c.amount_column-over.result c.day_bytes.ensures c.day_bytes-2.ensures
    c.amount_column-amount.ensures c.amount_column-paid.ensures
    (rw c.over_of.ensures at c.amount_column-over.ensures))
    c.write_pieces.ensures

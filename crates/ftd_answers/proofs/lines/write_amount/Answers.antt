use Rattle.ftd_answers.proofs.LineParts.{amount_parts}
use Rattle.ftd_answers.proofs.lines.write_amount.Goals as goal

pub returns : goal.returns
returns g c =
    let whole = amount_parts c.amount_column-amount.result.spaces.now
    c.amount_column-amount.result.dollars.now c.amount_column-amount.result.cents in
    let line = rw c.amount_column-amount.ensures at whole in
    let told = c.write_pieces.ensures in
    rw line told

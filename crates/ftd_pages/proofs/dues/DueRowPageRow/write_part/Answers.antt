use Rattle.ftd_pages.proofs.dues.DueRowPageRow.write_part.Goals as goal

pub returns : goal.returns
returns g c =
    let paid = rw c.left_of-left.ensures at c.to_payment.ensures in
    let linked = rw paid at c.write_linked_fields.ensures in
    rw c.left_of-left.ensures at linked

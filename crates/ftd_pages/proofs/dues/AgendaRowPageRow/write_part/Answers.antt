use Rattle.ftd_pages.proofs.dues.AgendaRowPageRow.write_part.Goals as goal

pub returns : goal.returns
returns g c =
    let account = rw c.as_str-name.ensures at c.to_account.ensures in
    let reason = rw c.as_str-name.ensures at c.to_reason.ensures in
    let paid = rw (c.as_str-name.ensures, c.left_of-left.ensures) at c.to_payment.ensures in
    let linked = rw account at c.write_linked_fields.ensures in
    let explained = rw reason at linked in
    let payable = rw paid at explained in
    let named = rw c.as_str-name.ensures at payable in
    rw c.left_of-left.ensures at named

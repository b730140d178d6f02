use Rattle.ftd_pages.proofs.unapplied.UnappliedRowPageRow.write_part.Goals as goal

pub returns : goal.returns
returns g c =
    let account = rw c.as_str-name.ensures at c.to_account.ensures in
    rw (account, c.as_str-name.ensures, c.over_of.ensures) at c.write_linked_fields.ensures

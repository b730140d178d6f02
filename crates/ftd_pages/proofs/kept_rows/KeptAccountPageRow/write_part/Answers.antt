use Rattle.ftd_pages.proofs.kept_rows.KeptAccountPageRow.write_part.Goals as goal

pub returns : goal.returns
returns g c =
    let account = rw c.as_str-name.ensures at c.to_account.ensures in
    rw (account, c.as_str-name.ensures) at c.write_linked_fields.ensures

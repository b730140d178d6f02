use Rattle.ftd_pages.proofs.dues.write_due.Goals as goal

pub returns : goal.returns
returns g c =
    rw (c.total.ensures, c.total-2.ensures, c.as_slice-rows.ensures, c.as_str-account.ensures) at
    c.write_list_at.ensures

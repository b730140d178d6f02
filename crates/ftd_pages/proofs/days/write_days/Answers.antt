use Rattle.ftd_pages.proofs.days.write_days.Goals as goal

pub returns : goal.returns
returns g c =
    rw (c.total.ensures, c.as_slice-sums.ensures, c.as_str-account.ensures) at
    c.write_list_at.ensures

use Rattle.ftd_pages.proofs.dues.write_owed.Goals as goal

pub returns : goal.returns
returns g c = rw (c.total.ensures, c.as_slice-rows.ensures) at c.write_list_at.ensures

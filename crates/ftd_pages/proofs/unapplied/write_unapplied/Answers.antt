use Rattle.ftd_pages.proofs.unapplied.write_unapplied.Goals as goal

pub returns : goal.returns
returns g c = rw c.as_slice-rows.ensures at c.write_list_at.ensures

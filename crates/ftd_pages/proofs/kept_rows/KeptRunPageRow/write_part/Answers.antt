use Rattle.ftd_pages.proofs.kept_rows.KeptRunPageRow.write_part.Goals as goal

pub returns : goal.returns
returns g c = rw c.class_if.ensures at c.write_fields.ensures

use Rattle.ftd_pages.proofs.kept_rows.KeptTotalPageRow.write_part.Goals as goal

pub returns-in-Quarter : goal.returns-in-Quarter
returns-in-Quarter g c = rw c.in-Quarter.is c.write_fields.ensures

pub returns-in-Year : goal.returns-in-Year
returns-in-Year g c = rw c.in-Year.is c.write_fields-in-Year.ensures

use Rattle.ftd_answers.proofs.kept_rows.KeptAccountRow.write.Goals as goal

pub returns : goal.returns
returns g c = rw c.as_str.ensures at c.write_fields.ensures

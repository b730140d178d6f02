use Rattle.ftd_answers.proofs.due_rows.DueRowRow.write.Goals as goal

pub returns : goal.returns
returns g c = rw c.left_of.ensures at c.write_fields.ensures

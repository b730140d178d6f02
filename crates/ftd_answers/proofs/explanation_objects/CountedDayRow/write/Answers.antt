use Rattle.ftd_answers.proofs.explanation_objects.CountedDayRow.write.Goals as goal

pub returns : goal.returns
returns g c = rw c.day_kind_name.ensures at c.write_fields.ensures

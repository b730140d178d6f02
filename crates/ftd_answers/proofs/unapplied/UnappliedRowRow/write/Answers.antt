use Rattle.ftd_answers.proofs.unapplied.UnappliedRowRow.write.Goals as goal

pub returns : goal.returns
returns g c = rw (c.as_str.ensures, c.over_of.ensures) at c.write_fields.ensures

use Rattle.ftd_answers.proofs.explanation_objects.write_return_due.Goals as goal

pub returns : goal.returns
returns g c = rw c.day_bytes-day.ensures at c.write_pieces.ensures

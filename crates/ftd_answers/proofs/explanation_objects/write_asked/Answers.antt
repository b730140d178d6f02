use Rattle.ftd_answers.proofs.explanation_objects.write_asked.Goals as goal

pub returns : goal.returns
returns g c = rw (c.as_bytes.ensures.value, c.day_bytes-day.ensures) at c.write_pieces.ensures

use Rattle.ftd_answers.proofs.explanations.write_return.Goals as goal

pub returns : goal.returns
returns g c = rw c.day_bytes-day.ensures at c.write_pieces.ensures

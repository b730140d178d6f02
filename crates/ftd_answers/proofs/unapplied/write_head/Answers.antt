use Rattle.ftd_answers.proofs.unapplied.write_head.Goals as goal

pub returns : goal.returns
returns g c = rw c.day_bytes-until.ensures at c.write_pieces.ensures

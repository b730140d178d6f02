use Rattle.ftd_answers.proofs.explanations.write_reached.Goals as goal

pub returns-in-Some : goal.returns-in-Some
returns-in-Some g c =
    rw c.in-Some.is (rw c.day_bytes-turn.ensures at c.write_pieces.ensures)

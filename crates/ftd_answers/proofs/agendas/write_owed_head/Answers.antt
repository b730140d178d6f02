use Rattle.ftd_answers.proofs.agendas.write_owed_head.Goals as goal

pub returns : goal.returns
returns g c =
    rw (c.day_bytes-until.ensures, c.day_bytes-as_of.ensures)
    at c.write_pieces.ensures

use Rattle.ftd_replies.proofs.notes.write_counts.Goals as goal

pub returns : goal.returns
returns g c =
    rw (c.day_bytes-first.ensures, c.day_bytes-last.ensures) at c.write_pieces.ensures

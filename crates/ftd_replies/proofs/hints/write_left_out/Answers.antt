use Rattle.ftd_replies.proofs.hints.write_left_out.Goals as goal

pub returns : goal.returns
returns g c = rw c.in-Some.is
    (rw (c.day_bytes-text.ensures, c.file_bytes.ensures) at c.write_pieces.ensures)

use Rattle.ftd_replies.proofs.hints.write_meant_line.Goals as goal

pub returns : goal.returns
returns g c = rw c.as_bytes-name.ensures.value at c.write_pieces.ensures

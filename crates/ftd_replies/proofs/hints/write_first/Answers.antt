use Rattle.ftd_replies.proofs.hints.write_first.Goals as goal

pub returns : goal.returns
returns g c = rw (c.as_bytes-text.ensures.value, c.format.ensures.text) at c.write_pieces.ensures

use Rattle.ftd_replies.proofs.hints.write_year.Goals as goal

pub returns : goal.returns
returns g c = rw (c.as_bytes-text.ensures.value, c.format.ensures.text) at c.write_on.ensures

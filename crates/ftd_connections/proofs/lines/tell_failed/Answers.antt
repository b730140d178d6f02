use Rattle.ftd_connections.proofs.lines.tell_failed.Goals as goal

pub returns : goal.returns
returns g c = rw (c.as_bytes-number.ensures.value, c.format.ensures.text) at
    c.tell_more.ensures

use Rattle.ftd_connections.proofs.lines.tell_listening.Goals as goal

pub returns : goal.returns
returns g c = rw (c.as_bytes-port.ensures.value, c.format.ensures.text) at c.write_pieces.ensures

use Rattle.ftd_connections.specs.Responses.{owed_line}
use Rattle.ftd_connections.proofs.response.write_owed.Goals as goal

pub returns : goal.returns
unfolding owed_line
returns g c =
    rw (c.day_bytes-as_of.ensures, c.day_bytes-until.ensures) at c.write_pieces.ensures

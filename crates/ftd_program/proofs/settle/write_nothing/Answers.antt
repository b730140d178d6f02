use Rattle.ftd_program.specs.Settling.{nothing_text}
use Rattle.ftd_program.proofs.settle.write_nothing.Goals as goal

pub returns : goal.returns
unfolding nothing_text
returns g c =
    rw (c.as_bytes-account.ensures.value, c.as_str.ensures, c.day_bytes-due.ensures)
    at c.write_pieces.ensures

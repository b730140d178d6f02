use Rattle.ftd_program.specs.Numbering.{number_text}
use Rattle.ftd_program.proofs.numbering.write_number.Goals as goal

pub returns : goal.returns
unfolding number_text
returns g c = rw (c.as_bytes-number.ensures.value, c.format.ensures.text) at c.write_pieces.ensures

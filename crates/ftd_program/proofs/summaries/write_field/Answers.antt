use Rattle.ftd_program.specs.Summaries.{field_text}
use Rattle.ftd_program.proofs.summaries.write_field.Goals as goal

pub returns : goal.returns
unfolding field_text
returns g c = rw (c.as_bytes-field.ensures.value, c.format.ensures.text) at c.write_pieces.ensures

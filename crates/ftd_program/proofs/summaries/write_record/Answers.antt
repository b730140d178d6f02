use Rattle.ftd_program.specs.Summaries.{record_text}
use Rattle.ftd_program.proofs.summaries.write_record.Goals as goal

pub returns : goal.returns
unfolding record_text
returns g c = rw (c.as_bytes-number.ensures.value, c.format.ensures.text) at c.write_pieces.ensures

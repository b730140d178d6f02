use Rattle.ftd_program.specs.PlainLines.{record_line}
use Rattle.ftd_program.proofs.printing.write_record.Goals as goal

pub returns : goal.returns
unfolding record_line
returns g c =
    rw (
      c.as_bytes-number.ensures.value,
      c.format.ensures.text,
      c.as_bytes-field.ensures.value,
      c.format-2.ensures.text,
    ) at c.write_pieces.ensures

use Rattle.ftd_program.specs.OpenYears.{counts_text}
use Rattle.ftd_program.proofs.open_years.write_counts.Goals as goal

pub returns : goal.returns
unfolding counts_text
returns g c =
    rw (
      c.as_bytes-opened.ensures.value,
      c.format.ensures.text,
      c.as_bytes-already.ensures.value,
      c.format-2.ensures.text,
      c.as_bytes-refused.ensures.value,
      c.format-3.ensures.text,
    ) at c.write_pieces.ensures

use Rattle.ftd_program.specs.Summaries.{counts_text}
use Rattle.ftd_program.proofs.summaries.write_counts.Goals as goal

pub returns : goal.returns
unfolding counts_text
returns g c =
    rw (
      c.as_bytes-posted.ensures.value,
      c.format.ensures.text,
      c.as_bytes-already.ensures.value,
      c.format-2.ensures.text,
      c.as_bytes-refused.ensures.value,
      c.format-3.ensures.text,
      c.as_bytes-malformed.ensures.value,
      c.format-4.ensures.text,
    ) at c.write_pieces.ensures

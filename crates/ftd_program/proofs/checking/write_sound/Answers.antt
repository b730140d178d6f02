use Rattle.ftd_program.specs.Checking.{sound_text}
use Rattle.ftd_program.proofs.checking.write_sound.Goals as goal

pub returns : goal.returns
unfolding sound_text
returns g c =
    rw (
      c.as_bytes-accounts.ensures.value,
      c.format.ensures.text,
      c.as_bytes-years.ensures.value,
      c.format-2.ensures.text,
      c.as_bytes-runs.ensures.value,
      c.format-3.ensures.text,
      c.as_bytes-payments.ensures.value,
      c.format-4.ensures.text,
      c.as_bytes-obligations.ensures.value,
      c.format-5.ensures.text,
    ) at c.write_pieces.ensures

use Rattle.ftd_program.specs.AddedNotes.{counted_note}
use Rattle.ftd_program.proofs.added_notes.write_counted.Goals as goal

pub returns : goal.returns
unfolding counted_note
returns g c =
    rw (
      c.as_bytes.ensures.value,
      c.as_str.ensures,
      c.as_bytes-count.ensures.value,
      c.format.ensures.text,
      c.day_bytes-due.ensures,
    ) at c.write_pieces.ensures

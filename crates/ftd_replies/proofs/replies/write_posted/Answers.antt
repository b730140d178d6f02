use Rattle.ftd_replies.specs.Replies.{posted_text}
use Rattle.ftd_replies.proofs.replies.write_posted.Goals as goal

pub returns : goal.returns
unfolding posted_text
returns g c =
    rw (
      c.day_bytes.ensures,
      c.day_bytes-2.ensures,
      c.as_bytes.ensures.value,
      c.format.ensures.text,
      c.as_bytes-2.ensures.value,
      c.format-2.ensures.text,
      c.as_slice.ensures,
      c.as_slice-2.ensures,
    ) at c.write_pieces.ensures

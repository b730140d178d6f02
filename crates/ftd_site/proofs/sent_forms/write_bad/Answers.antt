use Rattle.ftd_site.specs.SentForms.{bad_text}
use Rattle.ftd_site.proofs.sent_forms.write_bad.Goals as goal

pub returns : goal.returns
unfolding bad_text
returns g c =
    rw (
      c.as_bytes-name.ensures.value,
      c.key.ensures,
      c.as_bytes-word.ensures.value,
      c.label.ensures,
      c.as_bytes-words.ensures.value,
      c.help.ensures,
    ) at c.write_pieces.ensures

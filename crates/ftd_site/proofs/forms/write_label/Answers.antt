use Rattle.ftd_site.specs.Forms.{label_text}
use Rattle.ftd_site.proofs.forms.write_label.Goals as goal

pub returns : goal.returns
unfolding label_text
returns g c =
    rw (
      c.as_bytes-name.ensures.value,
      c.key.ensures,
      c.as_bytes-word.ensures.value,
      c.label.ensures,
    ) at c.write_pieces.ensures

use Rattle.ftd_site.specs.Forms.{help_text}
use Rattle.ftd_site.proofs.forms.write_help.Goals as goal

pub returns : goal.returns
unfolding help_text
returns g c =
    rw (
      c.as_bytes-name.ensures.value,
      c.key.ensures,
      c.as_bytes-words.ensures.value,
      c.help.ensures,
    ) at c.write_pieces.ensures

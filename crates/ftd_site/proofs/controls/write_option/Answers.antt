use Rattle.ftd_site.specs.Controls.{option}
use Rattle.ftd_site.proofs.controls.write_option.Goals as goal

pub returns : goal.returns
unfolding option
returns g c =
    rw (
      c.as_bytes-selected.ensures.value,
      c.if_same.ensures,
      c.as_bytes-value.ensures.value,
      c.as_bytes-word.ensures.value,
    ) at c.write_pieces.ensures

use Rattle.ftd_site.specs.Controls.{attributes}
use Rattle.ftd_site.proofs.controls.write_attributes.Goals as goal

pub returns : goal.returns
unfolding attributes
returns g c =
    rw (
      c.as_bytes-name.ensures.value,
      c.key.ensures,
      c.as_bytes-required.ensures.value,
      c.required_text.ensures,
      c.is_required.ensures,
      c.as_bytes-invalid.ensures.value,
      c.invalid_text.ensures,
      c.kind.ensures,
    ) at c.write_pieces.ensures

use Rattle.ftd_site.specs.Controls.{typed_start}
use Rattle.ftd_site.proofs.controls.write_typed_start.Goals as goal

pub returns : goal.returns
unfolding typed_start
returns g c = rw c.as_bytes.ensures.value at c.write_pieces.ensures

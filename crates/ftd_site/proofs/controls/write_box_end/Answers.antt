use Rattle.ftd_site.specs.Controls.{box_end}
use Rattle.ftd_site.proofs.controls.write_box_end.Goals as goal

pub returns : goal.returns
unfolding box_end
returns g c = rw (c.as_bytes-checked.ensures.value, c.if_same.ensures) at c.write_pieces.ensures

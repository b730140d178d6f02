use Rattle.ftd_site.specs.Forms.{form_start}
use Rattle.ftd_site.proofs.forms.write_form_start.Goals as goal

pub returns : goal.returns
unfolding form_start
returns g c = rw c.as_bytes.ensures.value at c.write_pieces.ensures

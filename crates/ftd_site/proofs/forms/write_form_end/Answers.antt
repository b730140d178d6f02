use Rattle.ftd_site.specs.Forms.{form_end}
use Rattle.ftd_site.proofs.forms.write_form_end.Goals as goal

pub returns : goal.returns
unfolding form_end
returns g c = rw c.as_bytes.ensures.value at c.write_pieces.ensures

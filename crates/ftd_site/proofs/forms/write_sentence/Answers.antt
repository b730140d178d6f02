use Rattle.ftd_site.specs.Forms.{sentence_text}
use Rattle.ftd_site.proofs.forms.write_sentence.Goals as goal

pub returns : goal.returns
unfolding sentence_text
returns g c = rw c.as_bytes.ensures.value at c.write_pieces.ensures

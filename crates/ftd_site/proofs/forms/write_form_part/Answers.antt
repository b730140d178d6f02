use Rattle.ftd_ports.proofs.WritingFacts.{then_writes, stops_in}
use Rattle.ftd_site.specs.Forms.{form_part}
use Rattle.ftd_site.proofs.forms.write_form_part.Goals as goal

pub returns-in_err-write_page_heading : goal.returns-in_err-write_page_heading
unfolding form_part
returns-in_err-write_page_heading g c =
    stops_in _ c.from_residual.ensures.0
    (rw c.title.ensures at c.in_err-write_page_heading.ensures)

pub returns-in_err-write_sentence : goal.returns-in_err-write_sentence
unfolding form_part
returns-in_err-write_sentence g c =
    then_writes (rw c.title.ensures at c.in_ok-write_page_heading.ensures) (stops_in _
    c.from_residual-in_err-write_sentence.ensures.0
    (rw c.sentence.ensures at c.in_err-write_sentence.ensures))

pub returns : goal.returns
unfolding form_part
returns g c =
    then_writes (rw c.title.ensures at c.in_ok-write_page_heading.ensures) (then_writes
    (rw c.sentence.ensures at c.in_ok-write_sentence.ensures) c.write_form_of.ensures)

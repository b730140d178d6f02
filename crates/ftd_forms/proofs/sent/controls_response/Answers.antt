use Rattle.std.proofs.Common.{◌∙◌, sym}
use Rattle.ftd_forms.proofs.sent.controls_response.Goals as goal

pub returns-then-are_of_form : goal.returns-then-are_of_form
returns-then-are_of_form g c =
    rw (sym c.are_of_form.ensures ∙ c.if-are_of_form.true) c.read_response.ensures

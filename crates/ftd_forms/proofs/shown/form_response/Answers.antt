use Rattle.std.proofs.Common.{◌∙◌, sym}
use Rattle.ftd_forms.proofs.ShownFacts.{shows}
use Rattle.ftd_forms.proofs.shown.form_response.Goals as goal

pub returns : goal.returns
returns g c =
    shows g.S.Store c.args.today c.args.desk.now c.next_number.new.desk c.args.verb
    c.args.named.now.account.now c.args.named.now.payable.now c.next_number.result
    c.form_with-made.result _ (sym c.has_form.ensures ∙ c.if-not-has_form.false)
    c.next_number.ensures (rw c.name_of.ensures at c.form_with-made.ensures)
    c.or_failed.ensures

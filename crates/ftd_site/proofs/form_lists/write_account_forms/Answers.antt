use Rattle.ftd_ports.proofs.WritingFacts.{then_writes}
use Rattle.ftd_site.specs.FormLists.{account_forms}
use Rattle.ftd_site.proofs.form_lists.write_account_forms.Goals as goal

pub returns : goal.returns
unfolding account_forms
returns g c =
    then_writes c.in_ok-write_all.ensures (then_writes c.in_ok-write_account_form_lines.ensures
    c.write_all-2.ensures)

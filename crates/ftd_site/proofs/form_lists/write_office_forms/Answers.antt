use Rattle.ftd_ports.proofs.WritingFacts.{then_writes, stops_in}
use Rattle.ftd_site.specs.FormLists.{office_forms}
use Rattle.ftd_site.proofs.form_lists.write_office_forms.Goals as goal

pub returns-in_err-write_all : goal.returns-in_err-write_all
unfolding office_forms
returns-in_err-write_all g c = stops_in _ c.from_residual.ensures.0 c.in_err-write_all.ensures

pub returns : goal.returns
unfolding office_forms
returns g c =
    then_writes c.in_ok-write_all.ensures (then_writes c.in_ok-write_rows.ensures
    c.write_all-2.ensures)

use Rattle.ftd_ports.proofs.WritingFacts.{then_writes, stops_in}
use Rattle.ftd_pages.specs.Pages.{page_of}
use Rattle.ftd_site.proofs.form_lists.write_form_list.Goals as goal

pub returns-in_err-write_start : goal.returns-in_err-write_start
unfolding page_of
returns-in_err-write_start g c = stops_in _ c.from_residual.ensures.0 c.in_err-write_start.ensures

pub returns-in_err-write_office_forms : goal.returns-in_err-write_office_forms
unfolding page_of
returns-in_err-write_office_forms g c =
    then_writes c.in_ok-write_start.ensures (stops_in _
    c.from_residual-in_err-write_office_forms.ensures.0 c.in_err-write_office_forms.ensures)

pub returns : goal.returns
unfolding page_of
returns g c =
    then_writes c.in_ok-write_start.ensures (then_writes c.in_ok-write_office_forms.ensures
    c.write_end.ensures)

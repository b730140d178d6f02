use Rattle.ftd_ports.proofs.WritingFacts.{then_writes, stops_in}
use Rattle.ftd_pages.specs.Pages.{page_of}
use Rattle.ftd_site.proofs.sent_forms.write_sent_form.Goals as goal

pub returns-in_err-write_start : goal.returns-in_err-write_start
unfolding page_of
returns-in_err-write_start g c =
    stops_in _ c.from_residual.ensures.0
    (rw (c.came_of.ensures, c.title.ensures, c.account_after.ensures)
    at c.in_err-write_start.ensures)

pub returns-in_err-write_sent_part : goal.returns-in_err-write_sent_part
unfolding page_of
returns-in_err-write_sent_part g c =
    then_writes (rw (c.came_of.ensures, c.title.ensures, c.account_after.ensures)
    at c.in_ok-write_start.ensures) (stops_in _
    c.from_residual-in_err-write_sent_part.ensures.0 c.in_err-write_sent_part.ensures)

pub returns : goal.returns
unfolding page_of
returns g c =
    then_writes (rw (c.came_of.ensures, c.title.ensures, c.account_after.ensures)
    at c.in_ok-write_start.ensures) (then_writes c.in_ok-write_sent_part.ensures
    c.write_end.ensures)

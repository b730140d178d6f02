use Rattle.ftd_ports.proofs.WritingFacts.{then_writes, stops_in}
use Rattle.ftd_pages.specs.Pages.{page_of}
use Rattle.ftd_pages.proofs.explanations.write_explanation_page.Goals as goal

pub returns-in_err-write_start : goal.returns-in_err-write_start
unfolding page_of
returns-in_err-write_start g c = stops_in _ c.from_residual.ensures.0
    (rw c.as_str-account.ensures at c.in_err-write_start.ensures)

pub returns-in_err-write_explained : goal.returns-in_err-write_explained
unfolding page_of
returns-in_err-write_explained g c = then_writes (rw c.as_str-account.ensures at c.in_ok-write_start.ensures) (stops_in _ c.from_residual-in_err-write_explained.ensures.0 (rw c.as_str-account.ensures at c.in_err-write_explained.ensures))

pub returns : goal.returns
unfolding page_of
returns g c = then_writes (rw c.as_str-account.ensures at c.in_ok-write_start.ensures) (then_writes (rw c.as_str-account.ensures at c.in_ok-write_explained.ensures) c.write_end.ensures)

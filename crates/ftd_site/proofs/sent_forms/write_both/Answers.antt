use Rattle.ftd_ports.proofs.WritingFacts.{then_writes, stops_in}
use Rattle.ftd_site.proofs.sent_forms.write_both.Goals as goal

pub returns-in_err-write_printed : goal.returns-in_err-write_printed
returns-in_err-write_printed g c =
    stops_in _ c.from_residual.ensures.0 c.in_err-write_printed.ensures

pub returns : goal.returns
returns g c = then_writes c.in_ok-write_printed.ensures c.write_printed-2.ensures

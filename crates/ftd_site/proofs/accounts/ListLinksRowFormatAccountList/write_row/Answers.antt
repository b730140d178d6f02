use Rattle.ftd_ports.proofs.WritingFacts.{then_writes, stops_in}
use Rattle.ftd_site.proofs.accounts.ListLinksRowFormatAccountList.write_row.Goals as goal

pub returns-in_err-write_to : goal.returns-in_err-write_to
returns-in_err-write_to g c = stops_in _ c.from_residual.ensures.0 c.in_err-write_to.ensures

pub returns : goal.returns
returns g c = then_writes c.in_ok-write_to.ensures c.write_all.ensures

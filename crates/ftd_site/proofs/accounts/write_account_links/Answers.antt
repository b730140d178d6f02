use Rattle.ftd_ports.proofs.WritingFacts.{then_writes, stops_in}
use Rattle.ftd_site.proofs.accounts.write_account_links.Goals as goal

pub returns-in_err-write_account_nav : goal.returns-in_err-write_account_nav
returns-in_err-write_account_nav g c =
    stops_in _ c.from_residual.ensures.0 c.in_err-write_account_nav.ensures

pub returns : goal.returns
returns g c = then_writes c.in_ok-write_account_nav.ensures c.write_account_forms.ensures

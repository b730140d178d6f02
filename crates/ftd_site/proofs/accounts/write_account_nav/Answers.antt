use Rattle.ftd_ports.proofs.WritingFacts.{then_writes, stops_in}
use Rattle.ftd_site.specs.Accounts.{account_nav}
use Rattle.ftd_site.proofs.accounts.write_account_nav.Goals as goal

pub returns-in_err-write_all : goal.returns-in_err-write_all
unfolding account_nav
returns-in_err-write_all g c = stops_in _ c.from_residual.ensures.0 c.in_err-write_all.ensures

pub returns-in_err-write_list_lines : goal.returns-in_err-write_list_lines
unfolding account_nav
returns-in_err-write_list_lines g c = then_writes c.in_ok-write_all.ensures (stops_in _ c.from_residual-in_err-write_list_lines.ensures.0 c.in_err-write_list_lines.ensures)

pub returns : goal.returns
unfolding account_nav
returns g c = then_writes c.in_ok-write_all.ensures (then_writes c.in_ok-write_list_lines.ensures c.write_all-2.ensures)

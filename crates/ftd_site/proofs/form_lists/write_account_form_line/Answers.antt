use Rattle.std.proofs.Common.{ap}
use Rattle.ftd_ports.proofs.WritingFacts.{then_writes, stops_in}
use Rattle.ftd_verbs.specs.Rows.{VerbRow}
use Rattle.ftd_site.proofs.form_lists.write_account_form_line.Goals as goal

pub returns-in_err-write_link : goal.returns-in_err-write_link
returns-in_err-write_link g c =
    let command = ap (λ (row : VerbRow). row.command) c.row.ensures in
    stops_in _ c.from_residual.ensures.0
    (rw (command, c.title.ensures) at c.in_err-write_link.ensures)

pub returns : goal.returns
returns g c =
    let command = ap (λ (row : VerbRow). row.command) c.row.ensures in
    then_writes (rw (command, c.title.ensures) at c.in_ok-write_link.ensures) c.write_all.ensures

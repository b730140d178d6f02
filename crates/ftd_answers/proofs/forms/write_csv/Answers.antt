use Rattle.ftd_ports.proofs.WritingFacts.{stops_in, then_writes}
use Rattle.ftd_answers.specs.Fields.{record_told}
use Rattle.ftd_answers.proofs.forms.write_csv.Goals as goal

pub returns-in_err-write_header : goal.returns-in_err-write_header
unfolding record_told
returns-in_err-write_header g c =
    stops_in _ c.from_residual.ensures.0 (rw (c.names.ensures c.args.account.now) at
    c.in_err-write_header.ensures)

pub returns : goal.returns
unfolding record_told
returns g c =
    then_writes (rw (c.names.ensures c.args.account.now) at c.in_ok-write_header.ensures)
    c.write_rows.ensures

use Rattle.ftd_ports.proofs.WritingFacts.{then_writes}
use Rattle.ftd_answers.specs.Listings.{account_line}
use Rattle.ftd_answers.proofs.lines.ColumnsRowFormatKeptAccount.write_row.Goals as goal

pub returns : goal.returns
unfolding account_line
returns g c =
    then_writes (rw c.as_str.ensures at c.in_ok-write_name.ensures) c.write_enrolled.ensures

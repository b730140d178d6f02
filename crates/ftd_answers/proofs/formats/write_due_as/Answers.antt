use Rattle.std.proofs.Common.{ap₂, subst}
use Rattle.ftd_ports.specs.Writing.{Writes}
use Rattle.ftd_answers.specs.Dues.{due_csv}
use Rattle.ftd_answers.proofs.formats.write_due_as.Goals as goal

pub returns-in-Csv : goal.returns-in-Csv
unfolding due_csv
returns-in-Csv g c =
    rw c.in-Csv.is (subst (Writes _ _ _ _) (ap₂ due_csv c.as_str-account.ensures
    c.as_slice-rows.ensures) c.write_csv.ensures)

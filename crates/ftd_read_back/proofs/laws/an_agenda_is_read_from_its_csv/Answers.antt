use Rattle.ftd_read_back.proofs.Tables.{agenda_table}
use Rattle.ftd_read_back.proofs.laws.an_agenda_is_read_from_its_csv.Goals as goal

pub returns : goal.returns
returns c = record {
  agenda = λ rows are. agenda_table rows are;
  owed = λ owed are. agenda_table owed.rows are;
}

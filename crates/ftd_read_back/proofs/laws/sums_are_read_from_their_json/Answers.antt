use Rattle.ftd_read_back.proofs.KeptObjects.{liable_amount}
use Rattle.ftd_read_back.proofs.Objects.{agenda_left, due_amount, due_left}
use Rattle.ftd_read_back.proofs.laws.sums_are_read_from_their_json.Goals as goal

pub returns : goal.returns
returns c = record {
  agenda_left = λ rows are small. agenda_left rows are small;
  owed_left = λ owed are small. agenda_left owed.rows are small;
  due_amount = λ account rows name are small. due_amount account name rows are small;
  due_left = λ account rows name are small. due_left account name rows are small;
  by_day = λ account sums name are small. liable_amount account name sums are small;
}

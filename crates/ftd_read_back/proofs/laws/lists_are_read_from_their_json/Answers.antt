use Rattle.ftd_read_back.proofs.Objects.{agenda_objects, due_objects, payment_objects}
use Rattle.ftd_read_back.proofs.KeptObjects.{account_objects, holiday_objects, liable_objects}
use Rattle.ftd_read_back.proofs.KeptObjects.{run_objects, total_objects, unapplied_objects}
use Rattle.ftd_read_back.proofs.KeptObjects.{year_objects}
use Rattle.ftd_read_back.proofs.laws.lists_are_read_from_their_json.Goals as goal

pub returns : goal.returns
returns c = record {
  agenda = λ rows are. agenda_objects rows are;
  owed = λ owed are. agenda_objects owed.rows are;
  due = λ account rows name are. due_objects account name rows are;
  payments = λ account quarter listed name are. payment_objects account name quarter listed are;
  runs = λ account quarter listed name are. run_objects account name quarter listed are;
  accounts = λ listed are. account_objects listed are;
  years = λ account listed name are. year_objects account name listed are;
  reported = λ account listed name are. total_objects account name listed are;
  holidays = λ year listed are. holiday_objects year listed are;
  unapplied = λ rows are. unapplied_objects rows are;
  by_day = λ account sums name are. liable_objects account name sums are;
}

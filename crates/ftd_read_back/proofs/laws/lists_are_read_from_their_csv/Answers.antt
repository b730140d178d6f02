use Rattle.ftd_read_back.proofs.KeptTables.{account_table, holiday_table, liable_table, run_table}
use Rattle.ftd_read_back.proofs.KeptTables.{total_table, unapplied_table, year_table}
use Rattle.ftd_read_back.proofs.laws.lists_are_read_from_their_csv.Goals as goal

pub returns : goal.returns
returns c = record {
  runs = λ account quarter listed name are. run_table account quarter listed name are;
  accounts = λ listed are. account_table listed are;
  years = λ account listed name are. year_table account listed name are;
  reported = λ account listed name are. total_table account listed name are;
  holidays = λ year listed are. holiday_table year listed are;
  unapplied = λ rows are. unapplied_table rows are;
  by_day = λ account sums name are. liable_table account sums name are;
}

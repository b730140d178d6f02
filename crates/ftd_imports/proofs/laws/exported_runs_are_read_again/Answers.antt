use Rattle.ftd_imports.proofs.Reread.{has_header, records_are}
use Rattle.ftd_imports.proofs.laws.exported_runs_are_read_again.Goals as goal

pub returns : goal.returns
returns c = record {
  header = λ account listed name. has_header account name listed;
  records = λ account listed name. records_are account name listed;
}

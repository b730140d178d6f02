use Rattle.ftd_csv.proofs.Marks.{stripped}
use Rattle.ftd_csv.proofs.headers.without_mark.Goals as goal

pub returns : goal.returns
returns c = rw c.unwrap_or.ensures
    (stripped c.args.text c.strip_prefix.result c.strip_prefix.ensures.cases)

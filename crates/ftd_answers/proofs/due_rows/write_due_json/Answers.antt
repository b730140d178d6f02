use Rattle.ftd_answers.specs.Dues.{due_json}
use Rattle.ftd_answers.proofs.due_rows.write_due_json.Goals as goal

pub returns : goal.returns
unfolding due_json
returns g c = rw (c.total.ensures, c.total-2.ensures) at c.write_json.ensures

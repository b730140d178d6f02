use Rattle.std.proofs.Common.{rules}
use Rattle.ftd_questions.proofs.due_rows.begins_in.Goals as goal

pub returns : goal.returns
returns c = search rules

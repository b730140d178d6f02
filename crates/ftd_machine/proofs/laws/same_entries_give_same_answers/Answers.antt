use Rattle.ftd_machine.proofs.SameStep.{same_entries_answer, same_entries_equal}
use Rattle.ftd_machine.proofs.laws.same_entries_give_same_answers.Goals as goal

pub returns : goal.returns
returns c = record { each = same_entries_answer; equal = same_entries_equal }

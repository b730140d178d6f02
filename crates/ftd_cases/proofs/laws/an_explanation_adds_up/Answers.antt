use Rattle.ftd_machine.specs.State.{entries_of, holidays}
use Rattle.ftd_cases.proofs.Explained.{told, last_total_is, paydays_sum}
use Rattle.ftd_cases.proofs.laws.an_explanation_adds_up.Goals as goal

pub returns : goal.returns
returns c = record {
  total = λ s next name day e step.
      last_total_is (holidays s) (entries_of s name) e (told s next name day e step);
  sum = λ s next name day e step.
      paydays_sum (holidays s) (entries_of s name) e (told s next name day e step);
}

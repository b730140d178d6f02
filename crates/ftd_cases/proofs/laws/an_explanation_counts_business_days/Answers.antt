use Rattle.ftd_machine.specs.State.{entries_of, holidays}
use Rattle.ftd_cases.proofs.Explained.{told, business_days_are}
use Rattle.ftd_cases.proofs.laws.an_explanation_counts_business_days.Goals as goal

pub returns : goal.returns
returns c = record {
  count = λ s next name day e step.
      (business_days_are (holidays s) (entries_of s name) e (told s next name day e step)).0;
  last = λ s next name day e step.
      (business_days_are (holidays s) (entries_of s name) e (told s next name day e step)).1;
}

use Rattle.ftd_machine.proofs.Small.{liability_small, paid_small, lookback_small}
use Rattle.ftd_machine.proofs.laws.sums_are_small.Goals as goal

pub returns : goal.returns
returns c = record {
  liability = λ s name first last sound. liability_small s name sound first last;
  paid = λ s name first last as_of day sound. paid_small s name sound first last as_of day;
  lookback = λ s name year total sound h. lookback_small s name sound year total h;
}

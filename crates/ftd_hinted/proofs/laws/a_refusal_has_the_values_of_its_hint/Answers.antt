use Rattle.ftd_hinted.proofs.HintRefused.{has_values}
use Rattle.ftd_hinted.proofs.laws.a_refusal_has_the_values_of_its_hint.Goals as goal

pub returns : goal.returns
returns c = has_values

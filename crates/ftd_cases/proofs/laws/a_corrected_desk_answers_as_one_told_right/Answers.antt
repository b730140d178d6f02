use Rattle.ftd_cases.proofs.NoCorrections.{reached_right}
use Rattle.ftd_cases.proofs.RightAtFirst.{answers_right}
use Rattle.ftd_cases.proofs.laws.a_corrected_desk_answers_as_one_told_right.Goals as goal

pub returns : goal.returns
returns c = record { same = answers_right; reached = reached_right }

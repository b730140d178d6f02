use Rattle.ftd_machine.proofs.Soundness.{step_sound, reached_sound}
use Rattle.ftd_machine.proofs.laws.reached_states_are_sound.Goals as goal

pub returns : goal.returns
returns c = record { step = step_sound; reached = reached_sound }

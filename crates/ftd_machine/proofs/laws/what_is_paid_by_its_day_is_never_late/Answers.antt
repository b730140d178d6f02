use Rattle.ftd_machine.proofs.Soundness.{sound_once}
use Rattle.ftd_machine.proofs.PaidInTime.{never_late}
use Rattle.ftd_machine.proofs.laws.what_is_paid_by_its_day_is_never_late.Goals as goal

pub returns : goal.returns
returns c s later as_of then x y sound h k named first goes in_time waits =
    never_late s later as_of then x y (sound_once s sound) h k named first goes in_time waits

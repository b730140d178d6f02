use Rattle.ftd_sound.proofs.Deciding.{any_is_one}
use Rattle.ftd_sound.proofs.years.is_one_of.Goals as goal

pub returns : goal.returns
returns c = any_is_one c.args.years.now c.args.year c.contains.result c.contains.ensures.value

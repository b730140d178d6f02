use Rattle.std.proofs.Common.{◌∙◌}
use Rattle.ftd_days.proofs.Wholes.{whole_read}
use Rattle.ftd_days.proofs.digits.whole_number.Goals as goal

pub returns : goal.returns
returns c = c.ok.ensures.value ∙ whole_read c.args.text.now c.parse.result c.parse.ensures.value.0

use Rattle.ftd_replies.specs.Differing.{days_text}
use Rattle.ftd_replies.proofs.differing.write_days.Goals as goal

pub returns : goal.returns
unfolding days_text
returns g c = rw (c.day_bytes-day.ensures, c.day_bytes-kept.ensures) at c.write_pieces.ensures

use Rattle.ftd_replies.proofs.hints.write_quarter.Goals as goal

pub returns : goal.returns
returns g c = rw c.quarter_bytes-text.ensures at c.write_of.ensures

use Rattle.ftd_replies.proofs.hints.write_new.Goals as goal

pub returns : goal.returns
returns g c = rw c.in-Some.is (rw c.day_bytes-text.ensures at c.write_on.ensures)

use Rattle.ftd_replies.proofs.enrolment.write_correction.Goals as goal

pub returns : goal.returns
returns g c = rw (c.day_bytes-start.ensures, c.carried_end-end.ensures) at c.write_of.ensures

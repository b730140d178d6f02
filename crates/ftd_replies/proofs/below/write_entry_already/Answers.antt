use Rattle.ftd_replies.proofs.below.write_entry_already.Goals as goal

pub returns-in-Holiday : goal.returns-in-Holiday
returns-in-Holiday g c = rw c.in-Holiday.is
    (rw c.day_bytes-text.ensures at c.write_on.ensures)

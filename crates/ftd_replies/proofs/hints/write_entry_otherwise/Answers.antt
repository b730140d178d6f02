use Rattle.ftd_replies.proofs.hints.write_entry_otherwise.Goals as goal

pub returns-in-Account : goal.returns-in-Account
returns-in-Account g c = rw c.in-Account.is
    (rw (c.as_bytes-name.ensures.value, c.as_str.ensures) at c.write_on.ensures)

pub returns-in-Total : goal.returns-in-Total
returns-in-Total g c = rw c.in-Total.is
    (rw c.as_str-in-Total.ensures at c.write_otherwise.ensures)

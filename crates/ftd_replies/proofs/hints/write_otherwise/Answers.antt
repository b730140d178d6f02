use Rattle.ftd_replies.proofs.hints.write_otherwise.Goals as goal

pub returns-in-Quarter : goal.returns-in-Quarter
returns-in-Quarter g c = rw c.in-Quarter.is (rw c.quarter_bytes-text.ensures at c.write_of.ensures)

pub returns-in-Year : goal.returns-in-Year
returns-in-Year g c = rw c.in-Year.is c.write_number.ensures

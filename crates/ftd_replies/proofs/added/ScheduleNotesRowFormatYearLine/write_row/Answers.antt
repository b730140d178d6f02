use Rattle.ftd_replies.proofs.added.ScheduleNotesRowFormatYearLine.write_row.Goals as goal

pub returns-in-Monthly-None : goal.returns-in-Monthly-None
returns-in-Monthly-None g c =
    rw (c.in-Monthly-None.is-0, c.in-Monthly-None.is-1)
    (rw (c.as_bytes-year.ensures.value, c.format.ensures.text)
    at c.write_pieces-in-Monthly-None.ensures)

pub returns-in-Monthly-Some : goal.returns-in-Monthly-Some
returns-in-Monthly-Some g c =
    rw (c.in-Monthly-Some.is-0, c.in-Monthly-Some.is-1)
    (rw (c.as_bytes-year.ensures.value, c.format.ensures.text, c.day_bytes-day.ensures)
    at c.write_pieces-in-Monthly-Some.ensures)

use Rattle.ftd_answers.specs.Calendars.{event_owner}
use Rattle.ftd_answers.proofs.calendars.write_event_owner.Goals as goal

pub returns : goal.returns
unfolding event_owner
returns g c =
    rw (
      c.as_bytes.ensures.value,
      c.as_bytes-2.ensures.value,
      c.as_str-account.ensures,
      c.plain_day-as_of.ensures,
      c.plain_day-due.ensures,
      c.day_bytes-first.ensures,
      c.form_bytes-form.ensures,
    ) at c.write_pieces.ensures

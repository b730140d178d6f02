use Rattle.ftd_answers.specs.Calendars.{event_deposit}
use Rattle.ftd_answers.proofs.CalendarFacts.{event_deposit_parts}
use Rattle.ftd_answers.proofs.calendars.write_event_deposit.Goals as goal

pub returns : goal.returns
unfolding event_deposit
returns g c =
    let told = rw (
      c.rule_name.ensures,
      c.amount_text-left.ensures.dollars,
      c.amount_text-left.ensures.cents,
      c.from.ensures,
      c.left_of.ensures,
      c.day_bytes.ensures,
      c.day_bytes-2.ensures,
      c.day_bytes-3.ensures,
      c.verdict_name.ensures,
      c.condition_of.ensures,
    ) at c.write_pieces.ensures in
    rw (event_deposit_parts c.args.row.now) told

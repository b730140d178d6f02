use Rattle.ftd_ports.proofs.WritingFacts.{begins, goes_on, stops_after, ends_in}
use Rattle.ftd_answers.proofs.CalendarFacts.{event_parts}
use Rattle.ftd_answers.proofs.calendars.EventsRowFormatAgendaRow.write_row.Goals as goal

pub returns-in_err-write_event_owner : goal.returns-in_err-write_event_owner
returns-in_err-write_event_owner g c =
    stops_after _ c.from_residual.ensures.0 begins
    (event_parts c.args.self.now.as_of c.args.row.now) c.in_err-write_event_owner.ensures

pub returns : goal.returns
returns g c =
    ends_in (goes_on _ _ begins (event_parts c.args.self.now.as_of c.args.row.now)
    c.in_ok-write_event_owner.ensures.ok) c.write_event_deposit.ensures

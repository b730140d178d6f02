use Rattle.ftd_read_back.proofs.Calendars.{dates_are}
use Rattle.ftd_read_back.proofs.EventsRead.{events_are}
use Rattle.ftd_read_back.proofs.laws.events_are_on_due_dates.Goals as goal

pub returns : goal.returns
returns c = record {
  dates = λ as_of rows lines are said. dates_are as_of rows lines are said;
  events = λ as_of rows lines are said. events_are as_of rows lines are said;
}

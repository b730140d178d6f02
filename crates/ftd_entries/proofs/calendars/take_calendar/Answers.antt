use Rattle.std.proofs.Common.{◌≡◌, None, Some, option_map, rules}
use Rattle.ftd_machine.specs.Checks.{first_of}
use Rattle.ftd_machine.specs.Requests.{calendar_checks}
use Rattle.ftd_machine.specs.declared.requests.Request.TheVariants.{Enter}
use Rattle.ftd_machine.specs.declared.requests.Entry.TheVariants as entry
use Rattle.ftd_entries.proofs.Serving.{served_looked, served_changed}
use Rattle.ftd_entries.proofs.CalendarRows.{days_found, calendar_known}
use Rattle.ftd_entries.proofs.Giving.{calendar_decided, calendar_done}
use Rattle.ftd_entries.proofs.calendars.take_calendar.Goals as goal

pub returns-in-Err : goal.returns-in-Err
returns-in-Err g c =
    let year = c.args.year in
    let days = c.args.days.now in
    let found = c.in_ok-known.known in
    let decided : first_of (calendar_checks year days (option_map days_found found))
    ≡ Some c.in-Err.answer = search rules in
    record {
      call = served_looked (Enter (entry.Calendar year days)) c.in-Err.answer
          c.in_ok-known.ensures.call
          (λ t s stands sound finds. calendar_decided year days (option_map days_found found)
          c.in-Err.answer decided s (calendar_known year found t s stands sound finds));
    }

pub returns : goal.returns
returns g c =
    let year = c.args.year in
    let days = c.args.days.now in
    let found = c.in_ok-known.known in
    let passed : first_of (calendar_checks year days (option_map days_found found)) ≡ None =
    search rules in
    record {
      call = served_changed (Enter (entry.Calendar year days)) _ c.in_ok-known.ensures.call
          c.in_ok-add_calendar.ensures.call
          (λ t s stands sound finds. calendar_done year days (option_map days_found found) passed t
          s stands sound (calendar_known year found t s stands sound finds));
    }

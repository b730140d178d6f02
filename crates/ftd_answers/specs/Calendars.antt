-- What is due over all accounts as a calendar of iCalendar.
use Rattle.std.specs.Prelude.{ℕ, List, [], ◌∷◌, ◌++◌, codes, if◌then◌else◌}
use Rattle.std.specs.List.{flat_map, concat}
use Rattle.ftd_days.specs.Calendar.{year_of, month_in_year, day_of_month}
use Rattle.ftd_days.specs.Digits.{two_digits, four_digits}
use Rattle.ftd_days.specs.Text.{day_text, cents_text}
use Rattle.ftd_rules.specs.Text.{rule_text}
use Rattle.ftd_rules.specs.Verdicts.{verdict_text}
use Rattle.ftd_machine.specs.Agenda.{depends_on_total}
use Rattle.ftd_machine.specs.declared.lists.AgendaRow.{AgendaRow}
use Rattle.ftd_answers.specs.Agendas.{form_number, left_cents}

-- the two bytes that end a line
abbrev pub crlf : List ℕ
crlf = 13 ∷ 10 ∷ []

-- a line, and its end
abbrev pub ended : List ℕ → List ℕ
ended line = line ++ crlf

-- a day as 20240617
abbrev pub plain_day : ℕ → List ℕ
plain_day day =
    four_digits (year_of day) ++ two_digits (month_in_year day) ++ two_digits (day_of_month day)

-- what follows the verdict of a deposit that may be paid with its return only if the total for the
-- return stays small. The line would be too long, so it is folded: it goes on below, after a space.
abbrev pub condition : List ℕ
condition = crlf ++ codes "  if the total for the return stays below 2500.00"

abbrev pub condition_of : AgendaRow → List ℕ
condition_of x = if depends_on_total x then condition else []

-- the lines of a row, as of a day. The name of the event is of the account, its form and the first
-- day, so that the same deposit has the same name whenever it is told.
abbrev pub event_lines : ℕ → AgendaRow → List (List ℕ)
event_lines as_of x =
    let o = x.row.obligation in
    codes "BEGIN:VEVENT"
    ∷ concat (codes "UID:" ∷ x.account ∷ codes "-" ∷ form_number x.form ∷ codes "-"
    ∷ day_text o.first ∷ codes "@ftd" ∷ [])
    ∷ concat (codes "DTSTAMP:" ∷ plain_day as_of ∷ codes "T000000Z" ∷ [])
    ∷ concat (codes "DTSTART;VALUE=DATE:" ∷ plain_day o.due ∷ [])
    ∷ concat (codes "SUMMARY:" ∷ x.account ∷ codes " " ∷ form_number x.form ∷ codes " "
    ∷ rule_text o.rule ∷ codes " " ∷ cents_text (left_cents x) ∷ [])
    ∷ concat (codes "DESCRIPTION:" ∷ day_text o.first ∷ codes " to " ∷ day_text o.last
    ∷ codes "\\, pay by " ∷ day_text x.pay_by ∷ codes "\\, " ∷ verdict_text x.row.verdict
    ∷ condition_of x ∷ [])
    ∷ codes "END:VEVENT" ∷ []

-- the same lines, up to the rule and from it on
unfoldable pub event_owner : ℕ → AgendaRow → List ℕ
event_owner as_of x =
    concat (codes "BEGIN:VEVENT" ∷ crlf
    ∷ codes "UID:" ∷ x.account ∷ codes "-" ∷ form_number x.form ∷ codes "-"
    ∷ day_text x.row.obligation.first ∷ codes "@ftd" ∷ crlf
    ∷ codes "DTSTAMP:" ∷ plain_day as_of ∷ codes "T000000Z" ∷ crlf
    ∷ codes "DTSTART;VALUE=DATE:" ∷ plain_day x.row.obligation.due ∷ crlf
    ∷ codes "SUMMARY:" ∷ x.account ∷ codes " " ∷ form_number x.form ∷ codes " " ∷ [])

unfoldable pub event_deposit : AgendaRow → List ℕ
event_deposit x =
    let o = x.row.obligation in
    concat (rule_text o.rule ∷ codes " " ∷ cents_text (left_cents x) ∷ crlf
    ∷ codes "DESCRIPTION:" ∷ day_text o.first ∷ codes " to " ∷ day_text o.last
    ∷ codes "\\, pay by " ∷ day_text x.pay_by ∷ codes "\\, " ∷ verdict_text x.row.verdict
    ∷ condition_of x ∷ crlf ∷ codes "END:VEVENT" ∷ crlf ∷ [])

-- the event of a row
unfoldable pub event_text : ℕ → AgendaRow → List ℕ
event_text as_of x = flat_map ended (event_lines as_of x)

-- before the events, and after them
abbrev pub calendar_head : List ℕ
calendar_head = flat_map ended (codes "BEGIN:VCALENDAR" ∷ codes "VERSION:2.0"
    ∷ codes "PRODID:-//ftd//Federal tax deposits//EN" ∷ [])

abbrev pub calendar_end : List ℕ
calendar_end = ended (codes "END:VCALENDAR")

-- a calendar with an event for each row, as of a day
unfoldable pub agenda_calendar : ℕ → List AgendaRow → List ℕ
agenda_calendar as_of rows =
    calendar_head ++ (flat_map (event_text as_of) rows ++ calendar_end)

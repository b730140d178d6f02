-- What is due, in a format.
use Rattle.std.specs.Prelude.{ℕ, List}
use Rattle.ftd_machine.specs.declared.facts.Agenda.{Agenda}
use Rattle.ftd_machine.specs.declared.facts.DueList.{DueList}
use Rattle.ftd_machine.specs.declared.facts.LiabilityByDay.{LiabilityByDay}
use Rattle.ftd_machine.specs.declared.facts.OwedList.{OwedList}
use Rattle.ftd_answers.specs.Agendas.{agenda_text, owed_text}
use Rattle.ftd_answers.specs.DueLists.{due_text}
use Rattle.ftd_answers.specs.SchedulesB.{b_text}
use Rattle.ftd_answers.specs.Calendars.{agenda_calendar}
use Rattle.ftd_answers.specs.Dues.{agenda_csv, agenda_json, due_csv, due_json, b_csv, b_json}
use Rattle.ftd_answers.specs.declared.formats.Format.{Format}
use Rattle.ftd_answers.specs.declared.formats.Format.TheVariants.{List as Listed, Calendar}
use Rattle.ftd_answers.specs.declared.formats.ListFormat.{ListFormat}
use Rattle.ftd_answers.specs.declared.formats.ListFormat.TheVariants.{Text, Csv, Json}

-- what is due between two days, as of a day
abbrev pub agenda_as : Format → Agenda → List ℕ
agenda_as (Listed Text) x = agenda_text x.from x.to x.as_of x.rows
agenda_as (Listed Csv) x = agenda_csv x.rows
agenda_as (Listed Json) x = agenda_json x.rows
agenda_as Calendar x = agenda_calendar x.as_of x.rows

-- what is due until a day and not paid, as of a day
abbrev pub owed_as : Format → OwedList → List ℕ
owed_as (Listed Text) x = owed_text x.until x.as_of x.rows
owed_as (Listed Csv) x = agenda_csv x.rows
owed_as (Listed Json) x = agenda_json x.rows
owed_as Calendar x = agenda_calendar x.as_of x.rows

-- the due list of an account's quarter, as of a day
abbrev pub due_as : ListFormat → DueList → List ℕ
due_as Text x = due_text x.account x.quarter x.as_of x.rows
due_as Csv x = due_csv x.account x.rows
due_as Json x = due_json x.account x.rows

-- Schedule B of an account's quarter
abbrev pub b_as : ListFormat → LiabilityByDay → List ℕ
b_as Text x = b_text x.account x.quarter x.sums
b_as Csv x = b_csv x.account x.sums
b_as Json x = b_json x.account x.sums

-- a list alone is told as a list: what else is asked for in the format of a calendar is told as
-- text
abbrev pub list_format : Format → ListFormat
list_format (Listed format) = format
list_format Calendar = Text

use Rattle.ftd_read_back.proofs.Calendars.{are_lines, are_short}
use Rattle.ftd_read_back.proofs.laws.no_line_of_a_calendar_is_long.Goals as goal

pub returns : goal.returns
returns c = record {
  lines = λ as_of rows are. are_lines as_of rows are;
  short = λ as_of rows lines are said. are_short as_of rows lines are said;
}

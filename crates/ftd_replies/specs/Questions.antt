-- What is said where a year or a day of a question is out of range.
use Rattle.std.specs.Prelude.{List, ℕ, codes}
use Rattle.ftd_machine.specs.declared.requests.KeptList.{KeptList}
use Rattle.ftd_machine.specs.declared.requests.KeptList.TheVariants as kept
use Rattle.ftd_machine.specs.declared.requests.Question.{Question}
use Rattle.ftd_machine.specs.declared.requests.Question.TheVariants.{Agenda, DueList, Kept}
use Rattle.ftd_machine.specs.declared.requests.Question.TheVariants.{Owed, Unapplied}

abbrev pub paydays_years : List ℕ
paydays_years = codes "hint: the years of paydays are 2001 to 2098\n"

abbrev pub calendars_years : List ℕ
calendars_years = codes "hint: the years of calendars are 2001 to 2099\n"

abbrev pub years_kept : KeptList → List ℕ
years_kept (kept.Holidays year) = calendars_years
years_kept other = paydays_years

abbrev pub years_asked : Question → List ℕ
years_asked (Kept asked) = years_kept asked
years_asked other = paydays_years

abbrev pub paydays_days : List ℕ
paydays_days = codes "hint: the days of paydays are those of 2001 to 2098\n"

abbrev agenda_days : List ℕ
agenda_days = codes "hint: an agenda is of days of 2001 to 2099\n"

abbrev pub days_asked : Question → List ℕ
days_asked (DueList account quarter as_of) = codes "hint: ASOF must be in 2001 to 2099\n"
days_asked (Agenda from to as_of) = agenda_days
days_asked (Owed until as_of) = agenda_days
days_asked (Unapplied until) = codes "hint: UNTIL must be in 2001 to 2099\n"
days_asked other = paydays_days

-- What is told, in a format.
use Rattle.std.specs.Prelude.{ℕ, List}
use Rattle.ftd_machine.specs.declared.facts.Facts.{Facts}
use Rattle.ftd_machine.specs.declared.facts.Facts.TheVariants.{Status, Explained, Due, Days}
use Rattle.ftd_machine.specs.declared.facts.Facts.TheVariants.{Agenda, Owed, Unapplied, Kept}
use Rattle.ftd_answers.specs.ExplanationForms.{explanation_as}
use Rattle.ftd_answers.specs.Formats.{agenda_as, b_as, due_as, list_format, owed_as}
use Rattle.ftd_answers.specs.KeptForms.{kept_as}
use Rattle.ftd_answers.specs.Schedules.{schedule_as}
use Rattle.ftd_answers.specs.Unapplied.{unapplied_as}
use Rattle.ftd_answers.specs.declared.formats.Format.{Format}

abbrev pub facts_text : Format → Facts → List ℕ
facts_text format (Status schedule) = schedule_as format schedule
facts_text format (Explained explained) = explanation_as format explained
facts_text format (Due list) = due_as (list_format format) list
facts_text format (Days list) = b_as (list_format format) list
facts_text format (Agenda agenda) = agenda_as format agenda
facts_text format (Owed owed) = owed_as format owed
facts_text format (Unapplied unapplied) = unapplied_as (list_format format) unapplied
facts_text format (Kept rows) = kept_as (list_format format) rows

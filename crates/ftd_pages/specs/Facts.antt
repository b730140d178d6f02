-- What is told, at its place.
use Rattle.std.specs.Prelude.{ℕ, List}
use Rattle.ftd_machine.specs.declared.facts.Facts.{Facts}
use Rattle.ftd_machine.specs.declared.facts.Facts.TheVariants.{Status, Explained, Due, Days}
use Rattle.ftd_machine.specs.declared.facts.Facts.TheVariants.{Agenda, Owed, Unapplied, Kept}
use Rattle.ftd_pages.specs.Days.{days_at}
use Rattle.ftd_pages.specs.Dues.{agenda_at, due_at, owed_at}
use Rattle.ftd_pages.specs.Explanations.{explanation_at}
use Rattle.ftd_pages.specs.Kept.{kept_at}
use Rattle.ftd_pages.specs.Schedules.{schedule_at}
use Rattle.ftd_pages.specs.Unapplied.{unapplied_at}
use Rattle.ftd_pages.specs.declared.frames.Frame.{Frame}
use Rattle.ftd_pages.specs.declared.frames.Place.{Place}
use Rattle.ftd_pages.specs.declared.frames.Place.TheVariants.{Alone}

-- what is told at its place: as a page of its own, or as a section
abbrev pub facts_at : Place → Facts → List ℕ
facts_at place (Status schedule) = schedule_at place schedule
facts_at place (Explained explained) = explanation_at place explained
facts_at place (Due list) = due_at place list
facts_at place (Days list) = days_at place list
facts_at place (Agenda agenda) = agenda_at place agenda
facts_at place (Owed owed) = owed_at place owed
facts_at place (Unapplied unapplied) = unapplied_at place unapplied
facts_at place (Kept rows) = kept_at place rows

abbrev pub facts_page : Frame → Facts → List ℕ
facts_page frame facts = facts_at (Alone frame) facts

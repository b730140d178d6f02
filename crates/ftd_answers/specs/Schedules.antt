-- The deposit schedule of a day, in a format.
use Rattle.std.specs.Prelude.{ℕ, List, [], ◌∷◌, ◌++◌, codes, Option, None, Some}
use Rattle.ftd_days.specs.Text.{day_text}
use Rattle.ftd_machine.specs.declared.facts.DaySchedule.{DaySchedule}
use Rattle.ftd_answers.specs.Explanations.{reason_name, status_text, turn_of}
use Rattle.ftd_answers.specs.Fields.{Told, object_told, text_field}
use Rattle.ftd_answers.specs.Listings.{kind_name}
use Rattle.ftd_answers.specs.declared.formats.Format.{Format}
use Rattle.ftd_answers.specs.declared.formats.Format.TheVariants.{List as Listed, Calendar}
use Rattle.ftd_answers.specs.declared.formats.ListFormat.TheVariants.{Text, Csv, Json}

-- the day on which 100,000.00 was reached, if that is why
abbrev pub turn_field : Option ℕ → List Told
turn_field None = []
turn_field (Some day) = text_field (codes "turn") (day_text day) ∷ []

-- the day, its deposit schedule, and why
abbrev pub reason_fields : DaySchedule → List Told
reason_fields x =
    text_field (codes "day") (day_text x.day) ∷ text_field (codes "kind") (kind_name x.kind)
    ∷ text_field (codes "reason") (reason_name x.reason) ∷ []

abbrev pub schedule_fields : DaySchedule → List Told
schedule_fields x = reason_fields x ++ turn_field (turn_of x.reason)

-- as text and as JSON; there is nothing to tell in the other formats
abbrev pub schedule_as : Format → DaySchedule → List ℕ
schedule_as (Listed Text) x = status_text x.day x.kind x.reason
schedule_as (Listed Csv) x = []
schedule_as (Listed Json) x = object_told (schedule_fields x)
schedule_as Calendar x = []

-- The deposit schedule of a day.
use Rattle.std.specs.Prelude.{ℕ, List, [], ◌∷◌, ◌++◌, codes}
use Rattle.ftd_days.specs.Text.{day_text}
use Rattle.ftd_machine.specs.declared.facts.DaySchedule.{DaySchedule}
use Rattle.ftd_answers.specs.Explanations.{reason_name, turn_of}
use Rattle.ftd_answers.specs.Fields.{as_day, as_text, both, or_none}
use Rattle.ftd_answers.specs.Listings.{kind_name}
use Rattle.ftd_pages.specs.Pages.{page_of, titled}
use Rattle.ftd_pages.specs.Rows.{Shape, nowhere}
use Rattle.ftd_pages.specs.Sections.{one_row}
use Rattle.ftd_pages.specs.Statements.{reason_stated, statement_of}
use Rattle.ftd_pages.specs.declared.frames.Frame.{Frame}
use Rattle.ftd_pages.specs.declared.frames.Place.{Place}
use Rattle.ftd_pages.specs.declared.frames.Place.TheVariants.{Alone, Section}
use Rattle.ftd_pages.specs.declared.rows.Class.TheVariants.{Plain}

-- the fields of JSON, each with a word
abbrev pub schedule_shape : Shape DaySchedule
schedule_shape = record {
  fields = both (codes "day") (λ x. as_day x.day)
      ∷ both (codes "kind") (λ x. as_text (kind_name x.kind))
      ∷ both (codes "reason") (λ x. as_text (reason_name x.reason))
      ∷ both (codes "turn") (λ x. or_none as_day (turn_of x.reason)) ∷ [];
  words = codes "Day" ∷ codes "Schedule" ∷ codes "Reason" ∷ codes "Turned on" ∷ [];
  class = λ x. Plain;
  address = nowhere;
}

-- the schedule, and the rule by which the account has it
unfoldable pub schedule_part : List ℕ → DaySchedule → List ℕ
schedule_part title x =
    one_row schedule_shape title x ++ statement_of (reason_stated x.kind x.reason)

abbrev pub schedule_title : ℕ → List ℕ
schedule_title day = titled (codes "Deposit schedule on " ∷ day_text day ∷ [])

abbrev pub schedule_page : Frame → DaySchedule → List ℕ
schedule_page frame x =
    let title = schedule_title x.day in page_of frame [] title (schedule_part title x)

-- at its place
abbrev pub schedule_at : Place → DaySchedule → List ℕ
schedule_at (Alone frame) x = schedule_page frame x
schedule_at (Section ways) x = schedule_part (schedule_title x.day) x

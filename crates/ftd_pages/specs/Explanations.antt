-- Why an obligation is so.
use Rattle.std.specs.Prelude.{ℕ, List, [], ◌∷◌, ◌++◌, codes, Option, None, Some}
use Rattle.ftd_days.specs.Text.{day_text}
use Rattle.ftd_rules.specs.declared.Obligation.{Obligation}
use Rattle.ftd_rules.specs.Text.{rule_text}
use Rattle.ftd_machine.specs.declared.explained.CountedDay.{CountedDay}
use Rattle.ftd_machine.specs.declared.explained.Explanation.{Explanation}
use Rattle.ftd_machine.specs.declared.explained.RunningSum.{RunningSum}
use Rattle.ftd_machine.specs.declared.facts.DaySchedule.{DaySchedule}
use Rattle.ftd_machine.specs.declared.facts.ExplainedDay.{ExplainedDay}
use Rattle.ftd_machine.specs.declared.kept.KeptPayment.{KeptPayment}
use Rattle.ftd_answers.specs.ExplanationForms.{counted_fields, payday_fields}
use Rattle.ftd_answers.specs.Fields.{as_cents, as_day, as_text, both}
use Rattle.ftd_pages.specs.Kept.{payment_shape}
use Rattle.ftd_pages.specs.Pages.{none_of, page_of, titled}
use Rattle.ftd_pages.specs.Rows.{Shape, nowhere}
use Rattle.ftd_pages.specs.Schedules.{schedule_part}
use Rattle.ftd_pages.specs.Sections.{none_in_section, one_row, page_heading}
use Rattle.ftd_pages.specs.Sections.{section_heading, section_of}
use Rattle.ftd_pages.specs.Statements.{business_day_rule, payday_rule, return_rule, rule_stated}
use Rattle.ftd_pages.specs.Statements.{statement_of}
use Rattle.ftd_pages.specs.declared.frames.Frame.{Frame}
use Rattle.ftd_pages.specs.declared.frames.Place.{Place}
use Rattle.ftd_pages.specs.declared.frames.Place.TheVariants.{Alone, Section}
use Rattle.ftd_pages.specs.declared.frames.Ways.TheVariants.{Nowhere}
use Rattle.ftd_pages.specs.declared.rows.Class.TheVariants.{Plain}

-- ---- what a page shows of the rows: the fields of JSON, each with a word

abbrev pub obligation_shape : Shape Obligation
obligation_shape = record {
  fields = both (codes "first") (λ x. as_day x.first)
      ∷ both (codes "last") (λ x. as_day x.last)
      ∷ both (codes "rule") (λ x. as_text (rule_text x.rule))
      ∷ both (codes "amount") (λ x. as_cents x.cents.0)
      ∷ both (codes "due") (λ x. as_day x.due) ∷ [];
  words = codes "Deposit period from" ∷ codes "Deposit period to" ∷ codes "Rule"
      ∷ codes "Amount" ∷ codes "Due" ∷ [];
  class = λ x. Plain;
  address = nowhere;
}

abbrev pub payday_shape : Shape RunningSum
payday_shape = record {
  fields = payday_fields;
  words = codes "Payday" ∷ codes "Liability" ∷ codes "Total so far" ∷ [];
  class = λ x. Plain;
  address = nowhere;
}

abbrev pub counted_shape : Shape CountedDay
counted_shape = record {
  fields = counted_fields;
  words = codes "Day" ∷ codes "Kind of day" ∷ [];
  class = λ x. Plain;
  address = nowhere;
}

-- ---- the parts, each with the rule in words

unfoldable pub obligation_part : Obligation → List ℕ
obligation_part x =
    one_row obligation_shape (titled (codes "Deposit" ∷ [])) x
    ++ statement_of (rule_stated x.rule)

unfoldable pub paydays_part : List RunningSum → List ℕ
paydays_part paydays =
    section_of Nowhere payday_shape (titled (codes "Paydays" ∷ [])) (codes "There are none.") []
    paydays ++ statement_of payday_rule

unfoldable pub days_part : List CountedDay → List ℕ
days_part days =
    section_of Nowhere counted_shape (titled (codes "Days counted to the due date" ∷ []))
    (codes "There are none.") [] days
    ++ statement_of business_day_rule

-- when the return is due
unfoldable pub return_part : ℕ → List ℕ
return_part day =
    codes "<h2>Return</h2>\n<p>The return that reports this deposit is due on "
    ++ (day_text day ++ (codes ".</p>\n" ++ statement_of return_rule))

unfoldable pub payments_part : List ℕ → List KeptPayment → List ℕ
payments_part account payments =
    section_of Nowhere (payment_shape account) (titled (codes "Payments" ∷ []))
    (codes "There are none.") [] payments

-- ---- the page

-- the obligation, and the deposit schedule of its first day; its paydays and the days that are
-- counted; when the return is due; and the payments
unfoldable pub explanation_parts : List ℕ → Explanation → List ℕ
explanation_parts account e =
    let first : DaySchedule =
    record { day = e.obligation.first; kind = e.kind; reason = e.reason } in
    obligation_part e.obligation
    ++ (schedule_part (titled (codes "Deposit schedule" ∷ [])) first
    ++ (paydays_part e.paydays ++ (days_part e.days
    ++ (return_part e.return_due ++ payments_part account e.payments))))

-- what explains the obligation, if there is one; where there is none, a sentence says so
unfoldable pub found_part : List ℕ → List ℕ → Explanation → List ℕ
found_part account title e = page_heading title ++ explanation_parts account e

abbrev pub explained_part : List ℕ → List ℕ → Option Explanation → List ℕ
explained_part account title None = none_of title (codes "There is no deposit for this day.")
explained_part account title (Some e) = found_part account title e

abbrev pub explanation_title : List ℕ → ℕ → List ℕ
explanation_title account day =
    titled (codes "Deposit of " ∷ account ∷ codes " for " ∷ day_text day ∷ [])

abbrev pub explanation_page : Frame → ExplainedDay → List ℕ
explanation_page frame x =
    let title = explanation_title x.account x.day in
    page_of frame x.account title (explained_part x.account title x.found)

-- as a section
unfoldable pub found_section : List ℕ → List ℕ → Explanation → List ℕ
found_section account title e = section_heading title ++ explanation_parts account e

abbrev pub explained_section : List ℕ → List ℕ → Option Explanation → List ℕ
explained_section account title None =
    none_in_section title (codes "There is no deposit for this day.")
explained_section account title (Some e) = found_section account title e

-- at its place
abbrev pub explanation_at : Place → ExplainedDay → List ℕ
explanation_at (Alone frame) x = explanation_page frame x
explanation_at (Section ways) x =
    explained_section x.account (explanation_title x.account x.day) x.found

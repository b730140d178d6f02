-- Schedule B of an account's quarter.
use Rattle.std.specs.Prelude.{ℕ, List, [], ◌∷◌, codes}
use Rattle.std.specs.List.{sum_by}
use Rattle.ftd_days.specs.Text.{quarter_text}
use Rattle.ftd_rules.specs.Liability.{cents_of}
use Rattle.ftd_rules.specs.declared.DaySum.{DaySum}
use Rattle.ftd_machine.specs.declared.facts.LiabilityByDay.{LiabilityByDay}
use Rattle.ftd_answers.specs.Dues.{day_fields}
use Rattle.ftd_pages.specs.Pages.{day_sum, foot_of, titled}
use Rattle.ftd_pages.specs.Sections.{list_at}
use Rattle.ftd_pages.specs.Rows.{Shape, nowhere}
use Rattle.ftd_pages.specs.declared.frames.Place.{Place}
use Rattle.ftd_pages.specs.declared.rows.Class.TheVariants.{Plain}

-- the fields of CSV and JSON, each with a word
abbrev pub day_shape : List ℕ → Shape DaySum
day_shape account = record {
  fields = day_fields account;
  words = codes "Account" ∷ codes "Day" ∷ codes "Amount" ∷ [];
  class = λ x. Plain;
  address = nowhere;
}

abbrev pub days_title : List ℕ → ℕ → List ℕ
days_title account quarter =
    titled (codes "Schedule B of " ∷ account ∷ codes ", " ∷ quarter_text quarter ∷ [])

-- the days, with the sum of their liability
abbrev pub days_at : Place → LiabilityByDay → List ℕ
days_at place x =
    let title = days_title x.account x.quarter in
    let foot = foot_of (day_sum (sum_by cents_of x.sums)) in
    list_at place x.account (day_shape x.account) title (codes "The quarter has no liability.") foot
    x.sums

-- Obligations as pieces of the runs of days that the walk goes along.
use Rattle.std.specs.Prelude.{◌≡◌, ℕ, ◌<◌, ◌↔◌, List}
use Rattle.ftd_rules.specs.declared.Form.{Form}
use Rattle.ftd_rules.specs.declared.DaySum.{DaySum}
use Rattle.ftd_rules.specs.declared.YearLine.{YearLine}
use Rattle.ftd_rules.specs.declared.Obligation.{Obligation}
use Rattle.ftd_rules.specs.Liability.{liability}
use Rattle.ftd_rules.specs.Private.Due.{IsDueBy}
use Rattle.ftd_rules.specs.Lists.{Has}
use Rattle.ftd_rules.specs.Obligations.{pieces, ByFirstDay}
use Rattle.ftd_rules.specs.Private.Stops.{IsStops}
use Rattle.ftd_rules.specs.Private.Years.{semiweekly_from}
use Rattle.ftd_rules.specs.Private.Periods.{rule_on, IsStretch}

-- o is owed for a piece of such a run, with its liability, which is
-- positive, and its due date
pub record IsOwedPiece (form : Form) (lines : List YearLine) (sums : List DaySum)
    (holidays : List ℕ) (o : Obligation) : Type 0 where
  pub line : YearLine
  pub open_year : Has lines line
  pub first : ℕ
  pub last : ℕ
  pub period : IsStretch form line first last
  pub stops : List ℕ
  pub are_stops : IsStops (liability sums) first last stops
  pub piece : Has (pieces (rule_on (semiweekly_from line) first) first last stops)
      (o.first, o.last, o.rule)
  pub amount : o.cents.0 ≡ liability sums o.first o.last
  pub positive : 0 < o.cents.0
  pub due : IsDueBy holidays o.rule o.last o.due

-- the rows are the obligations, by first day
pub record AreOwedPieces (form : Form) (lines : List YearLine) (sums : List DaySum)
    (holidays : List ℕ) (rows : List Obligation) : Type 0 where
  pub by_first_day : ByFirstDay rows
  pub all : (o : Obligation) → Has rows o ↔ IsOwedPiece form lines sums holidays o

-- What the functions for C are asked and answer, over plain numbers: a day is the number of days
-- after 1 January 1900, as everywhere in contracts.
use Rattle.std.specs.Prelude.{◌≡◌, ℕ, ◌+◌, ◌≤◌, ◌==◌, List, [], ◌∷◌, Option, Some, None}
use Rattle.std.specs.Prelude.{if◌then◌else◌}
use Rattle.ftd_days.specs.declared.limits.TheConstants.{LAST_OPEN_YEAR}
use Rattle.ftd_days.specs.Calendar.{last_day, quarter_of, year_of}
use Rattle.ftd_days.specs.Holidays.{MayAdd}
use Rattle.ftd_rules.specs.declared.Form.{Form}
use Rattle.ftd_rules.specs.declared.Form.TheVariants.{F941, F943}
use Rattle.ftd_rules.specs.declared.Rule.{Rule}
use Rattle.ftd_rules.specs.declared.Rule.TheVariants.{Monthly, Semiweekly, NextDay}
use Rattle.ftd_rules.specs.Due.{IsDue}
use Rattle.ftd_rules.specs.Returns.{IsReturnDue, IsMakeup}

-- what is answered where an argument is out of range
abbrev pub out_of_range : ℕ
out_of_range = 4_294_967_295

-- what is answered where memory was refused
abbrev pub no_memory : ℕ
no_memory = 4_294_967_294

-- the rule of a code
abbrev pub rule_of : ℕ → Option Rule
rule_of code =
    if code == 0 then Some Monthly
    else if code == 1 then Some Semiweekly
    else if code == 2 then Some NextDay
    else None

-- the form of its number
abbrev pub form_of : ℕ → Option Form
form_of number = if number == 941 then Some F941 else if number == 943 then Some F943 else None

-- the holidays of a year and of the next: at most 60 days of each, rising
pub record AreCalendars (year : ℕ) (this_year next_year : List ℕ) : Type 0 where
  pub first : MayAdd [] year this_year
  pub second : MayAdd ((record { year = year; days = this_year }) ∷ []) (year + 1) next_year

-- a last day that may be asked for, with the holidays of its year and of the next
pub record IsAsked (last : ℕ) (this_year next_year : List ℕ) : Type 0 where
  pub is_day : last ≤ last_day
  pub to : year_of last ≤ LAST_OPEN_YEAR
  pub calendars : AreCalendars (year_of last) this_year next_year

-- the due date of a deposit for days up to the last, by the rule of a code
pub record IsDueBy (holidays : List ℕ) (code last due : ℕ) : Type 0 where
  pub rule : Rule
  pub is_rule : rule_of code ≡ Some rule
  pub is_due : IsDue holidays rule last due

-- the due date of the return for the quarter of the last day
pub record IsReturnBy (holidays : List ℕ) (number last due : ℕ) : Type 0 where
  pub form : Form
  pub is_form : form_of number ≡ Some form
  pub is_due : IsReturnDue form holidays (quarter_of last) due

-- the makeup date of a deposit for days up to the last
pub record IsMakeupBy (holidays : List ℕ) (number code last makeup : ℕ) : Type 0 where
  pub form : Form
  pub is_form : form_of number ≡ Some form
  pub rule : Rule
  pub is_rule : rule_of code ≡ Some rule
  pub due : ℕ
  pub is_due : IsDue holidays rule last due
  pub is_makeup : IsMakeup form holidays rule last due makeup

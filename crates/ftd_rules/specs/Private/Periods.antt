-- Deposit periods in a year whose first semiweekly day is known.
use Rattle.std.specs.Prelude.{◌≡◌, ℕ, ◌≤◌, ◌↔◌, nat_lt, List, if◌then◌else◌}
use Rattle.std.specs.Bool.{MatchBool}
use Rattle.ftd_days.specs.Calendar.{month_of, year_start}
use Rattle.ftd_days.specs.Private.Intervals.{interval_start}
use Rattle.ftd_rules.specs.declared.Form.{Form}
use Rattle.ftd_rules.specs.declared.Rule.{Rule}
use Rattle.ftd_rules.specs.declared.Rule.TheVariants.{Monthly, Semiweekly}
use Rattle.ftd_rules.specs.declared.YearLine.{YearLine}
use Rattle.ftd_rules.specs.Years.{year_last}
use Rattle.ftd_rules.specs.Lists.{Has}
use Rattle.ftd_rules.specs.Periods.{return_period_of}
use Rattle.ftd_rules.specs.Private.Years.{semiweekly_from}

-- the schedule of a day, in a year whose first semiweekly day is `from`
abbrev pub rule_on : ℕ → ℕ → Rule
rule_on from day = if nat_lt day from then Monthly else Semiweekly

-- two days share a deposit period if they have the same return period, the same schedule and, if
-- that is monthly, the same month, if semiweekly, the same Wednesday to Friday or Saturday to
-- Tuesday
abbrev pub ShareRun : Form → ℕ → ℕ → ℕ → Type 0
ShareRun form from a b =
    (return_period_of form b ≡ return_period_of form a) × (rule_on from b ≡ rule_on from a)
    × MatchBool (nat_lt a from) (month_of b ≡ month_of a) (interval_start b ≡ interval_start a)

-- the days from a to b are a deposit period of the year
abbrev pub IsStretch : Form → YearLine → ℕ → ℕ → Type 0
IsStretch form line a b =
    (a ≤ b) × (year_start line.year ≤ a) × (b ≤ year_last line.year)
    × ((day : ℕ) → year_start line.year ≤ day → day ≤ year_last line.year
    → ShareRun form (semiweekly_from line) a day ↔ ((a ≤ day) × (day ≤ b)))

-- the status of a day of an open year, as the rule of what is left of its period
abbrev pub HasRule : List YearLine → ℕ → Rule → Type 0
HasRule lines day rule =
    (line : YearLine) × Has lines line × (year_start line.year ≤ day) × (day ≤ year_last line.year)
    × (rule_on (semiweekly_from line) day ≡ rule)

-- How a year opens, where a fact stands for the turn of the year before, and the first semiweekly
-- day.
use Rattle.std.specs.Prelude.{◌≡◌, ℕ, ◌+◌, ◌<◌, ◌⊎◌, Option, None, Some, IsTrue}
use Rattle.ftd_rules.specs.declared.TheConstants.{MONTHLY_LIMIT}
use Rattle.ftd_days.specs.Calendar.{year_start}
use Rattle.ftd_rules.specs.declared.Kind.{Kind}
use Rattle.ftd_rules.specs.declared.Kind.TheVariants as kind
use Rattle.ftd_rules.specs.declared.YearLine.{YearLine}
use Rattle.ftd_rules.specs.Years.{year_last, HasTurn}

-- whether the year opens semiweekly, where `turned_before` says that the year before has a turn
abbrev pub OpensBy : Type 0 → YearLine → Type 0
OpensBy turned_before line =
    (MONTHLY_LIMIT < line.lookback.0) ⊎ (IsTrue line.carried ⊎ turned_before)

-- its opening and its turn
abbrev pub IsScheduled : Type 0 → (ℕ → ℕ → ℕ) → YearLine → Type 0
IsScheduled turned_before liability line =
    ((line.opening ≡ kind.Semiweekly) × OpensBy turned_before line × (line.turn ≡ None))
    ⊎ ((line.opening ≡ kind.Monthly) × (OpensBy turned_before line → ⊥) × HasTurn liability line)

-- the first day of a year on which the account is semiweekly: its first day if it opens so, the day
-- after its turn if it has one, and else the day after its last
abbrev pub semiweekly_from_of : Kind → Option ℕ → ℕ → ℕ
semiweekly_from_of kind.Semiweekly turn year = year_start year
semiweekly_from_of kind.Monthly (Some turn) year = turn + 1
semiweekly_from_of kind.Monthly None year = year_last year + 1

abbrev pub semiweekly_from : YearLine → ℕ
semiweekly_from line = semiweekly_from_of line.opening line.turn line.year

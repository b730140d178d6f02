-- A year of an account gets another lookback total, and the account's rows are repaired.
use Rattle.std.specs.Prelude.{◌≡◌, ◌++◌, ◌∷◌, ℕ, List, length}
use Rattle.std.specs.Global.{Vec}
use Rattle.ftd_days.specs.Calendar.{year_start}
use Rattle.ftd_days.specs.declared.cents.Cents.{Cents}
use Rattle.ftd_rules.specs.declared.Form.{Form}
use Rattle.ftd_rules.specs.declared.YearLine.{YearLine}
use Rattle.ftd_sql.specs.Standing.{Tables}
use Rattle.ftd_store.specs.Changes.{with_year}
use Rattle.ftd_store.specs.Finds.{ListsYears}
use Rattle.ftd_machine.specs.declared.replies.Difference.{Difference}
use Rattle.ftd_repairs.specs.Calendars.{HasHolidaysFrom}
use Rattle.ftd_repairs.specs.Reopening.{Reopens, with_total}
use Rattle.ftd_repairs.specs.Reposted.{Repatches}

-- the line of the year is one of these, with those before it and after it
pub record IsAmong (year : ℕ) (lines : List YearLine) : Type 0 where
  pub earlier : List YearLine
  pub line : YearLine
  pub later : List YearLine
  pub cut : lines ≡ earlier ++ line ∷ later
  pub of_year : line.year ≡ year

-- so, after so many others
abbrev pub IsAt : ℕ → List YearLine → ℕ → Type 0
IsAt year lines at = (among : IsAmong year lines) × (length among.earlier ≡ at)

-- the lines with another lookback total of the year
abbrev pub lines_with : (year : ℕ) (lines : List YearLine) → IsAmong year lines → Cents
    → List YearLine
lines_with year lines among total = among.earlier ++ with_total total among.line ∷ among.later

-- the line of the year has the total, and the account's rows were repaired after it, by these lines
-- and holidays as they stood before; the day is told where no obligation differs
pub record Retotals (account : List ℕ) (form : Form) (day year : ℕ) (total : Cents)
    (lines : List YearLine) (holidays : List ℕ) (difference : Difference) (old new : Tables)
    : Type 0 where
  pub among : IsAmong year lines
  pub repatches : Repatches account day (lines_with year lines among total)
      (λ patch. Reopens account form year (lines_with year lines among total) holidays patch old)
      difference (with_year account (with_total total among.line) old) new

-- so by what the tables hold
pub record IsRetotaled (account : List ℕ) (form : Form) (day year : ℕ) (total : Cents)
    (old new : Tables) (difference : Difference) : Type 0 where
  pub lines : Vec YearLine
  pub listed : ListsYears account lines old
  pub holidays : List ℕ
  pub read : HasHolidaysFrom (year_start year) lines.items holidays old
  pub retotals : Retotals account form day year total lines.items holidays difference old new

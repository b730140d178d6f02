-- The holidays of an account's open years, as the tables have them.
use Rattle.std.specs.Prelude.{◌≤◌, ◌+◌, ℕ, List}
use Rattle.ftd_days.specs.Calendar.{year_of}
use Rattle.ftd_days.specs.Holidays.{holidays_of}
use Rattle.ftd_rules.specs.declared.YearLine.{YearLine}
use Rattle.ftd_rules.specs.Lists.{Has}
use Rattle.ftd_sql.specs.Standing.{Tables}
use Rattle.ftd_store.specs.Finds.{ListsYears}
use Rattle.ftd_store.specs.Holidays.{HasHolidays}
use Rattle.ftd_repairs.specs.declared.reading.KnownYears.{KnownYears}

-- the holidays of each open year from that of the day on, and of the year after it
abbrev pub HasHolidaysFrom : ℕ → List YearLine → List ℕ → Tables → Type 0
HasHolidaysFrom day lines holidays t =
    (line : YearLine) → Has lines line → year_of day ≤ line.year
    → HasHolidays t holidays line.year × HasHolidays t holidays (line.year + 1)

-- the account's open years, and the holidays of those from the day's on and of the years after them
pub record KnowsYears (account : List ℕ) (day : ℕ) (known : KnownYears) (t : Tables) : Type 0 where
  pub listed : ListsYears account known.lines t
  pub read : HasHolidaysFrom day known.lines.items (holidays_of known.holidays) t

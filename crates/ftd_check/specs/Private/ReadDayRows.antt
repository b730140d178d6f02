-- The rows of the days that were read.
use Rattle.std.specs.Prelude.{◌≡◌, map, Option, None, Some}
use Rattle.ftd_sql.specs.Standing.{Tables}
use Rattle.ftd_sql.specs.declared.TableName.TheVariants.{CalendarYears, Holidays, AddedHolidays}
use Rattle.ftd_sql.specs.declared.TableName.TheVariants.{ChangedHolidays}
use Rattle.ftd_store.specs.Rows.{calendar_year_row}
use Rattle.ftd_store.specs.Added.{year_holiday_row, year_holiday_change_row}
use Rattle.ftd_check.specs.Days.{AreKept, ReadsDays}
use Rattle.ftd_check.specs.declared.days.KeptDays.{KeptDays}
use Rattle.ftd_check.specs.declared.day_rows.DayRows.{DayRows}

-- the tables have these rows
pub record HasDayRows (rows : DayRows) (t : Tables) : Type 0 where
  pub years : map calendar_year_row rows.years.items ≡ t CalendarYears
  pub holidays : map year_holiday_row rows.holidays.items ≡ t Holidays
  pub added : map year_holiday_row rows.added.items ≡ t AddedHolidays
  pub changes : map year_holiday_change_row rows.changes.items ≡ t ChangedHolidays

-- the rows that the tables have, or None, where they have the rows of no sound days
abbrev pub ReadsDayRows : Option DayRows → Tables → Type 0
ReadsDayRows None t = ReadsDays None t
ReadsDayRows (Some rows) t = HasDayRows rows t

-- the sound days whose rows these are, if there are any
abbrev pub Shows : DayRows → Option KeptDays → Type 0
Shows rows kept =
    AreKept (map calendar_year_row rows.years.items)
    (map year_holiday_row rows.holidays.items) (map year_holiday_row rows.added.items)
    (map year_holiday_change_row rows.changes.items) kept

-- What the rows of the days show.
use Rattle.std.specs.Prelude.{◌≡◌, ℕ, ◌+◌, ◌==◌, ◌&&◌, Bool, List, ◌++◌, map, filter, count_by}
use Rattle.ftd_days.specs.Calendar.{year_of}
use Rattle.ftd_days.specs.Holidays.{YearDays}
use Rattle.ftd_sql.specs.Rows.{HolidayRow}
use Rattle.ftd_store.specs.Added.{year_holiday_row}
use Rattle.ftd_store.specs.declared.added_cells.YearHoliday.{YearHoliday}
use Rattle.ftd_store.specs.declared.added_cells.YearHolidayChange.{YearHolidayChange}
use Rattle.ftd_machine.specs.State.{DayChange}
use Rattle.ftd_entries.specs.Standing.{holiday_entries}
use Rattle.ftd_sound.specs.Days.{calendar_in}
use Rattle.ftd_sound.specs.declared.days.Calendar.{Calendar}

-- ---- calendars

abbrev pub day_shown : YearHoliday → ℕ
day_shown h = h.day

abbrev pub is_stored_for : ℕ → YearHoliday → Bool
is_stored_for year h = h.year == year

-- the days that are stored for the year
abbrev pub days_shown : ℕ → List YearHoliday → List ℕ
days_shown year holidays = map day_shown (filter (is_stored_for year) holidays)

abbrev pub calendar_shown : List YearHoliday → ℕ → YearDays
calendar_shown holidays year = record { year = year; days = days_shown year holidays }

-- the rows of the holidays begin with those of the calendar's days
abbrev pub GoesBefore : Calendar → List YearHoliday → Type 0
GoesBefore calendar holidays =
    (rest : List HolidayRow)
    × (map year_holiday_row holidays ≡ holiday_entries (calendar_in calendar) ++ rest)

-- ---- added holidays

-- it is stored for the year of its day
abbrev pub is_of_own_year : YearHoliday → Bool
is_of_own_year h = year_of h.day == h.year

-- ---- changes

abbrev pub change_shown : YearHolidayChange → DayChange
change_shown c = record { day = c.change.day; is_holiday = c.change.is_holiday }

abbrev pub is_on : ℕ → YearHolidayChange → Bool
is_on day c = c.change.day == day

-- with those that came before it: it is stored for the year of its day, and its number is one more
-- than there are changes of the day before it
abbrev pub is_numbered : List YearHolidayChange × YearHolidayChange → Bool
is_numbered p =
    (year_of p.1.change.day == p.1.year)
    && (count_by (is_on p.1.change.day) p.0 + 1 == p.1.change.number)

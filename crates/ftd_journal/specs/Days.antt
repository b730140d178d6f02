-- The journal of the days year by year, as it is read of the tables.
use Rattle.std.specs.Prelude.{◌≡◌, ◌==◌, ℕ, Bool, List, filter, flat_map, map, nat_lt}
use Rattle.ftd_days.specs.Calendar.{year_of}
use Rattle.ftd_days.specs.Holidays.{YearDays}
use Rattle.ftd_sql.specs.Standing.{Tables}
use Rattle.ftd_store.specs.Holidays.{words_on}
use Rattle.ftd_store.specs.declared.correction_cells.HolidayChange.{HolidayChange}
use Rattle.ftd_machine.specs.Journal.{calendar_given, corrections, day_changes, holiday_added}
use Rattle.ftd_machine.specs.Journal.{in_order, is_calendar_before}
use Rattle.ftd_machine.specs.Sound.{IsSound}
use Rattle.ftd_machine.specs.State.{State, all_days}
use Rattle.ftd_machine.specs.declared.requests.Correction.{Correction}
use Rattle.ftd_machine.specs.declared.requests.Correction.TheVariants as correction
use Rattle.ftd_machine.specs.declared.requests.Request.{Request}
use Rattle.ftd_entries.specs.Standing.{StandsFor}
use Rattle.ftd_journal.specs.declared.days.DaysPart.{DaysPart}
use Rattle.ftd_journal.specs.declared.days.DaysPart.TheVariants.{Calendars, Changes, Holidays}

abbrev pub as_itself : ℕ → ℕ
as_itself day = day

abbrev pub is_calendar_of : ℕ → YearDays → Bool
is_calendar_of year calendar = calendar.year == year

abbrev pub is_day_of : ℕ → ℕ → Bool
is_day_of year day = year_of day == year

-- ---- the parts of the journal of the days, and of each those of one year

abbrev pub all_calendars : State → List Request
all_calendars s = map calendar_given (in_order is_calendar_before s.calendars)

abbrev pub calendar_in_year : ℕ → State → List Request
calendar_in_year year s =
    map calendar_given (filter (is_calendar_of year) (in_order is_calendar_before s.calendars))

abbrev pub all_holidays : State → List Request
all_holidays s = map holiday_added (in_order nat_lt s.added_days)

abbrev pub holidays_in_year : ℕ → State → List Request
holidays_in_year year s =
    map holiday_added (filter (is_day_of year) (in_order nat_lt s.added_days))

abbrev pub all_changes : State → List Request
all_changes s = flat_map (day_changes s) (in_order nat_lt (all_days s))

abbrev pub changes_in_year : ℕ → State → List Request
changes_in_year year s =
    flat_map (day_changes s) (filter (is_day_of year) (in_order nat_lt (all_days s)))

-- a part, and of it that of one year
abbrev pub whole_part : DaysPart → State → List Request
whole_part Calendars s = all_calendars s
whole_part Holidays s = all_holidays s
whole_part Changes s = all_changes s

abbrev pub part_of_year : DaysPart → ℕ → State → List Request
part_of_year Calendars year s = calendar_in_year year s
part_of_year Holidays year s = holidays_in_year year s
part_of_year Changes year s = changes_in_year year s

-- ---- changes

abbrev pub day_correction : ℕ → Bool → Correction
day_correction day is_holiday = correction.Holiday day is_holiday

-- those of the day among these changes, the first one first
abbrev pub changes_on : List HolidayChange → ℕ → List Request
changes_on changes day = corrections (day_correction day) (words_on day changes)

-- they are the days of the year that were given or added as holidays, rising, in each sound state
-- for which the tables stand
abbrev pub KnowsDays : ℕ → List ℕ → Tables → Type 0
KnowsDays year days t =
    (s : State) → StandsFor t s → IsSound s
    → days ≡ filter (is_day_of year) (in_order nat_lt (all_days s))

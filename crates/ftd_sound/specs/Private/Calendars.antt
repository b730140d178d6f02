-- What is decided of calendars, added holidays and changes of days, one by one.
use Rattle.std.specs.Prelude.{◌==◌, ◌&&◌, ℕ, Bool, List, count_by, nat_le}
use Rattle.std.specs.List.{list_all, list_any}
use Rattle.ftd_days.specs.Business.{is_holiday}
use Rattle.ftd_days.specs.Calendar.{year_of}
use Rattle.ftd_days.specs.declared.limits.TheConstants.{MOST_HOLIDAYS}
use Rattle.ftd_machine.specs.declared.limits.TheConstants.{MOST_NUMBER}
use Rattle.ftd_machine.specs.Limits.{can_have_calendar, is_calendar}
use Rattle.ftd_sound.specs.declared.days.Calendar.{Calendar}
use Rattle.ftd_sound.specs.declared.days.DayChange.{DayChange}

-- the calendar may have been given
abbrev pub fits : Calendar → Bool
fits c = can_have_calendar c.year && is_calendar c.year c.days.items

abbrev pub year_of_given : Calendar → ℕ
year_of_given c = c.year

abbrev pub is_of : ℕ → Calendar → Bool
is_of year c = c.year == year

-- each day is of a year of which a calendar is given
abbrev pub are_in_calendars : List Calendar → List ℕ → Bool
are_in_calendars calendars days =
    list_all (λ (day : ℕ). list_any (is_of (year_of day)) calendars) days

-- how many of the days are of the year
abbrev pub days_in : ℕ → List ℕ → ℕ
days_in year days = count_by (λ (day : ℕ). year_of day == year) days

abbrev pub has_few_days : List ℕ → Calendar → Bool
has_few_days days c = nat_le (days_in c.year days) MOST_HOLIDAYS

abbrev pub day_itself : ℕ → ℕ
day_itself day = day

-- the day that was changed is one of these
abbrev pub is_changeable : List ℕ → DayChange → Bool
is_changeable days c = is_holiday days c.day

-- how many of the changes are of the day
abbrev pub changes_on : ℕ → List DayChange → ℕ
changes_on day changes = count_by (λ (c : DayChange). c.day == day) changes

abbrev pub has_few_changes : List DayChange → DayChange → Bool
has_few_changes changes c = nat_le (changes_on c.day changes) MOST_NUMBER

abbrev pub holds : Bool → Bool
holds b = b

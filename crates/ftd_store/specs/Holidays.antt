-- The legal holidays as the tables have them, year by year.
use Rattle.std.specs.Prelude.{◌≡◌, ◌≢◌, ◌||◌, ◌&&◌, ◌==◌, ◌≤◌, true, false, ℕ, List, [], ◌∷◌}
use Rattle.std.specs.Prelude.{Some, Bool, filter, map}
use Rattle.std.specs.Global.{Vec}
use Rattle.ftd_days.specs.declared.limits.TheConstants.{LAST_YEAR}
use Rattle.ftd_days.specs.Business.{is_holiday}
use Rattle.ftd_days.specs.Calendar.{year_of}
use Rattle.ftd_sql.specs.Standing.{Tables}
use Rattle.ftd_store.specs.declared.correction_cells.HolidayChange.{HolidayChange}
use Rattle.ftd_store.specs.Corrections.{ListsHolidayChanges}
use Rattle.ftd_store.specs.Finds.{HasCalendar, FindsCalendar, ListsAdded}

-- what the changes of a day say, the first one first
abbrev pub is_on : ℕ → HolidayChange → Bool
is_on day change = change.day == day

abbrev pub says_holiday : HolidayChange → Bool
says_holiday change = change.is_holiday

abbrev pub words_on : ℕ → List HolidayChange → List Bool
words_on day changes = map says_holiday (filter (is_on day) changes)

abbrev pub last_word : Bool → List Bool → Bool
last_word before [] = before
last_word before (word ∷ words) = last_word word words

-- a day that was given or added as a holiday is one, unless its last change takes it back
abbrev pub is_kept : List HolidayChange → ℕ → Bool
is_kept changes day = last_word true (words_on day changes)

abbrev pub is_holiday_in : List ℕ → List ℕ → List HolidayChange → ℕ → Bool
is_holiday_in given added changes day =
    (is_holiday given day || is_holiday added day) && is_kept changes day

-- of the days of the year exactly those are holidays that its calendar was given with, or that were
-- added to it later, and that no change took back
pub record HasHolidays (t : Tables) (holidays : List ℕ) (year : ℕ) : Type 0 where
  pub given : Vec ℕ
  pub is_given : FindsCalendar year (Some given) t
  pub added : Vec ℕ
  pub are_added : ListsAdded year added t
  pub changes : Vec HolidayChange
  pub are_changes : ListsHolidayChanges year changes t
  pub same : (day : ℕ) → year_of day ≡ year
      → is_holiday holidays day ≡ is_holiday_in given.items added.items changes.items day

-- so of each year from the first to the last
abbrev pub HasYears : ℕ → ℕ → List ℕ → Tables → Type 0
HasYears first last holidays t =
    (year : ℕ) → first ≤ year → year ≤ last → HasHolidays t holidays year

-- the holidays of a year were added to others, all of them days of the year
pub record AddsYear (year : ℕ) (old new : List ℕ) (t : Tables) : Type 0 where
  pub to : year ≤ LAST_YEAR
  pub given : Vec ℕ
  pub is_given : FindsCalendar year (Some given) t
  pub added : Vec ℕ
  pub are_added : ListsAdded year added t
  pub changes : Vec HolidayChange
  pub are_changes : ListsHolidayChanges year changes t
  pub same : (day : ℕ) → is_holiday new day
      ≡ (is_holiday old day || is_holiday_in given.items added.items changes.items day)
  pub elsewhere : (day : ℕ) → year_of day ≢ year
      → is_holiday_in given.items added.items changes.items day ≡ false

-- so where the year's calendar was given; else none were added
abbrev pub AddsIfGiven : ℕ → List ℕ → List ℕ → Bool → Tables → Type 0
AddsIfGiven year old new true t = AddsYear year old new t
AddsIfGiven year old new false t = HasCalendar year false t × (new ≡ old)

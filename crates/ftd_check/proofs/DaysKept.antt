-- What is kept of days is told by their rows.
use Rattle.std.proofs.Common.{◌≡◌, ◌∙◌, ◌↔◌, ℕ, sym, ap, subst, Bool, true, false, List, []}
use Rattle.std.proofs.Common.{map, Option, None, Vec}
use Rattle.std.specs.Prelude.{IsTrue, flat_map}
use Rattle.std.specs.List.{All, list_all}
use Rattle.std.proofs.lemmas.Bool.{true≢false}
use Rattle.ftd_days.specs.Holidays.{YearDays}
use Rattle.ftd_sql.specs.Answers.{calendar_year_shown, year_holiday_shown}
use Rattle.ftd_sql.specs.Answers.{year_holiday_change_shown}
use Rattle.ftd_sql.specs.Rows.{CalendarYearRow, HolidayRow, ChangedHolidayRow}
use Rattle.ftd_sql.specs.Standing.{Tables}
use Rattle.ftd_store.specs.Added.{year_holiday_row, year_holiday_change_row, CalendarYearsByRow}
use Rattle.ftd_store.specs.Added.{HolidaysByRow, AddedHolidaysByRow, HolidayChangesByRow}
use Rattle.ftd_store.specs.AddedRows.{IsYearHolidayCells, IsYearHolidayChangeCells}
use Rattle.ftd_store.specs.Cells.{IsCountCells}
use Rattle.ftd_store.specs.Rows.{calendar_year_row}
use Rattle.ftd_store.specs.declared.added_cells.YearHoliday.{YearHoliday}
use Rattle.ftd_store.specs.declared.added_cells.YearHolidayChange.{YearHolidayChange}
use Rattle.ftd_machine.specs.State.{DayChange}
use Rattle.ftd_entries.specs.Standing.{holiday_entries, with_earlier}
use Rattle.ftd_sound.specs.Parts.{AreDaysSound}
use Rattle.ftd_check.specs.Days.{AreSoundDays, ReadsDays, days_only}
use Rattle.ftd_check.specs.Private.DayRows.{calendar_shown, change_shown, day_shown, is_numbered}
use Rattle.ftd_check.specs.Private.DayRows.{is_of_own_year}
use Rattle.ftd_check.specs.Private.ReadDayRows.{HasDayRows, Shows}
use Rattle.ftd_check.specs.declared.day_rows.DayRows.{DayRows}
use Rattle.ftd_check.specs.declared.days.KeptDays.{KeptDays}
use Rattle.ftd_check.proofs.CalendarsShown.{added_are, added_shown, calendars_are, years_shown}
use Rattle.ftd_check.proofs.ChangesShown.{changes_are, changes_shown_by}
use Rattle.ftd_check.proofs.DaysShown.{added_readable, changes_readable, holidays_readable}
use Rattle.ftd_check.proofs.DaysShown.{years_readable}

-- ---- rows that were read as values

module _ (rows : DayRows) where
  abbrev pub calendars : List YearDays
  calendars = map (calendar_shown rows.holidays.items) rows.years.items

  abbrev pub days : List ℕ
  days = map day_shown rows.added.items

  abbrev pub changes : List DayChange
  changes = map change_shown rows.changes.items

  abbrev Sound : List YearDays → List ℕ → List DayChange → Type 0
  Sound = AreSoundDays (map calendar_year_row rows.years.items)
      (map year_holiday_row rows.holidays.items) (map year_holiday_row rows.added.items)
      (map year_holiday_change_row rows.changes.items)

  -- the days of the calendars are not those of the rows
  pub not_days : IsTrue false ↔ (map year_holiday_row rows.holidays.items
      ≡ flat_map holiday_entries calendars) → Shows rows None
  not_days decided given added changed s =
      let same = calendars_are rows.years.items rows.holidays.items given s.sound.calendars
      s.rows.calendars s.rows.calendar_days in
      true≢false (sym (decided.1 (s.rows.calendar_days
      ∙ ap (λ (cs : List YearDays). flat_map holiday_entries cs) (sym same))))

  -- an added holiday is not of its year
  pub not_added : list_all is_of_own_year rows.added.items ≡ false → Shows rows None
  not_added off given added changed s =
      true≢false (sym (added_are rows.added.items added s.rows.added_days).1 ∙ off)

  -- a change is not numbered
  pub not_numbered : list_all is_numbered (with_earlier [] rows.changes.items) ≡ false
      → Shows rows None
  not_numbered off given added changed s =
      true≢false (sym (changes_are rows.changes.items changed s.rows.changed_days).1 ∙ off)

  -- what the rows show is not sound
  pub not_sound : IsTrue false ↔ AreDaysSound (days_only calendars days changes) → Shows rows None
  not_sound decided given added changed s =
      let one = calendars_are rows.years.items rows.holidays.items given s.sound.calendars
      s.rows.calendars s.rows.calendar_days in
      let two = (added_are rows.added.items added s.rows.added_days).0 in
      let three = (changes_are rows.changes.items changed s.rows.changed_days).0 in
      let by_calendars : AreDaysSound (days_only calendars added changed) =
      subst (λ (cs : List YearDays). AreDaysSound (days_only cs added changed)) (sym one) s.sound in
      let by_added : AreDaysSound (days_only calendars days changed) =
      subst (λ (ds : List ℕ). AreDaysSound (days_only calendars ds changed)) (sym two)
      by_calendars in
      let by_changes : AreDaysSound (days_only calendars days changes) =
      subst (λ (cs : List DayChange). AreDaysSound (days_only calendars days cs)) (sym three)
      by_added in
      true≢false (sym (decided.1 by_changes))

  -- what they show is sound, and they are its rows
  pub all_sound : map year_holiday_row rows.holidays.items ≡ flat_map holiday_entries calendars
      → list_all is_of_own_year rows.added.items ≡ true
      → list_all is_numbered (with_earlier [] rows.changes.items) ≡ true
      → AreDaysSound (days_only calendars days changes) → Sound calendars days changes
  all_sound are_days own numbered sound = record {
    rows = record {
      calendars = years_shown rows.holidays.items rows.years.items;
      calendar_days = are_days;
      added_days = added_shown rows.added.items own;
      changed_days = changes_shown_by rows.changes.items numbered;
    };
    sound = sound;
  }

  -- the same of what was read
  module _ (given : List YearDays) (added : List ℕ) (changed : List DayChange)
      (one : given ≡ calendars) (two : added ≡ days) (three : changed ≡ changes) where
    pub decided_as : (is : Bool) → IsTrue is ↔ AreDaysSound (days_only given added changed)
        → IsTrue is ↔ AreDaysSound (days_only calendars days changes)
    decided_as is decided = rw (one, two, three) at decided

    pub sound_as : Sound calendars days changes → Sound given added changed
    sound_as sound = rw (one, two, three) sound

  -- the tables have these rows
  pub kept_told : (kept : Option KeptDays) (t : Tables) → HasDayRows rows t → Shows rows kept
      → ReadsDays kept t
  kept_told kept t has shows =
      rw (sym has.years, sym has.holidays, sym has.added, sym has.changes) shows

-- ---- rows of which some shows no value

module _ {A : Type 0} (t : Tables) where
  pub no_years : (found : Option (Vec ℕ A)) → found ≡ None → CalendarYearsByRow found t
      → ReadsDays None t
  no_years found is reads given added changed s =
      let none = subst (λ (o : Option (Vec ℕ A)). CalendarYearsByRow o t) is reads in
      none (subst (λ (rows : List CalendarYearRow). All IsCountCells (map calendar_year_shown rows))
      (sym s.rows.calendars) (years_readable given added changed s.sound))

  pub no_holidays : (found : Option (Vec YearHoliday A)) → found ≡ None → HolidaysByRow found t
      → ReadsDays None t
  no_holidays found is reads given added changed s =
      let none = subst (λ (o : Option (Vec YearHoliday A)). HolidaysByRow o t) is reads in
      none (subst (λ (rows : List HolidayRow). All IsYearHolidayCells (map year_holiday_shown rows))
      (sym s.rows.calendar_days) (holidays_readable given added changed s.sound))

  pub no_added : (found : Option (Vec YearHoliday A)) → found ≡ None → AddedHolidaysByRow found t
      → ReadsDays None t
  no_added found is reads given added changed s =
      let none = subst (λ (o : Option (Vec YearHoliday A)). AddedHolidaysByRow o t) is reads in
      none (subst (λ (rows : List HolidayRow). All IsYearHolidayCells (map year_holiday_shown rows))
      (sym s.rows.added_days) (added_readable given added changed s.sound))

  pub no_changes : (found : Option (Vec YearHolidayChange A)) → found ≡ None
      → HolidayChangesByRow found t → ReadsDays None t
  no_changes found is reads given added changed s =
      let none = subst (λ (o : Option (Vec YearHolidayChange A)). HolidayChangesByRow o t) is reads
      in
      none (subst (λ (rows : List ChangedHolidayRow).
      All IsYearHolidayChangeCells (map year_holiday_change_shown rows))
      (sym s.rows.changed_days) (changes_readable given added changed s.sound))

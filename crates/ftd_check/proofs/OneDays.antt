-- Rows of days are those of one state's days alone.
use Rattle.std.proofs.Common.{◌≡◌, ◌∙◌, ℕ, refl, sym, ap, Bool, List, [], ◌∷◌, ◌++◌, map, None}
use Rattle.std.proofs.Common.{Some}
use Rattle.std.specs.Prelude.{flat_map}
use Rattle.ftd_days.specs.Holidays.{YearDays}
use Rattle.ftd_sql.specs.Rows.{CalendarYearRow, HolidayRow, ChangedHolidayRow}
use Rattle.ftd_sql.specs.Standing.{Tables}
use Rattle.ftd_sql.specs.declared.TableName.TheVariants.{CalendarYears, Holidays, AddedHolidays}
use Rattle.ftd_sql.specs.declared.TableName.TheVariants.{ChangedHolidays}
use Rattle.ftd_machine.specs.Sound.{AreDistinct, year_of_calendar}
use Rattle.ftd_machine.specs.State.{State, DayChange}
use Rattle.ftd_entries.specs.Standing.{KeepsDays, added_entry, calendar_entry, change_entry}
use Rattle.ftd_entries.specs.Standing.{holiday_entries, with_earlier}
use Rattle.ftd_entries.proofs.Found.{day_is, flag_is}
use Rattle.ftd_sound.specs.Days.{calendar_in, change_in}
use Rattle.ftd_sound.specs.Parts.{AreDaysSound}
use Rattle.ftd_check.specs.Days.{AreSoundDays, ReadsDays, days_only}
use Rattle.ftd_check.specs.declared.days.KeptDays.{KeptDays}
use Rattle.ftd_check.proofs.CalendarsShown.{calendars_are, mapped_once, rows_of_calendars}
use Rattle.ftd_check.proofs.CalendarsShown.{stored_of, years_of}
use Rattle.ftd_check.proofs.ChangesShown.{change_on}

-- ---- by their rows

-- calendars of years that differ
one_calendars : (given others : List YearDays) → AreDistinct year_of_calendar given
    → AreDistinct year_of_calendar others → map calendar_entry given ≡ map calendar_entry others
    → flat_map holiday_entries given ≡ flat_map holiday_entries others → given ≡ others
one_calendars given others apart also of_years of_days =
    let years = map year_of_calendar given in
    let holidays = flat_map stored_of given in
    sym (calendars_are years holidays given apart (sym (years_of given))
    (sym (rows_of_calendars given)))
    ∙ calendars_are years holidays others also (sym (years_of given) ∙ of_years)
    (sym (rows_of_calendars given) ∙ of_days)

one_added : (added others : List ℕ) → map added_entry added ≡ map added_entry others
    → added ≡ others
one_added = mapped_once added_entry
    (λ a b same. day_is a b (ap (λ (r : HolidayRow). r.day) same))

one_change : (before : List DayChange) (c d : DayChange)
    → change_entry (before, c) ≡ change_entry (before, d) → c ≡ d
one_change before c d same =
    ap (λ (day : ℕ). change_on day c.is_holiday)
    (day_is c.day d.day (ap (λ (r : ChangedHolidayRow). r.day) same))
    ∙ ap (λ (is_holiday : Bool). change_on d.day is_holiday)
    (flag_is c.is_holiday d.is_holiday (ap (λ (r : ChangedHolidayRow). r.is_holiday) same))

one_changes : (before changes others : List DayChange)
    → map change_entry (with_earlier before changes) ≡ map change_entry (with_earlier before others)
    → changes ≡ others
one_changes before [] [] same = refl
one_changes before [] (d ∷ others) same = absurd cc
one_changes before (c ∷ changes) [] same = absurd cc
one_changes before (c ∷ changes) (d ∷ others) same =
    let head : change_entry (before, c) ≡ change_entry (before, d) = cc in
    let tail : map change_entry (with_earlier (before ++ c ∷ []) changes)
    ≡ map change_entry (with_earlier (before ++ d ∷ []) others) = cc in
    let first = one_change before c d head in
    let rest = one_changes (before ++ d ∷ []) changes others
    (ap (λ (e : DayChange). map change_entry (with_earlier (before ++ e ∷ []) changes)) (sym first)
    ∙ tail) in
    ap (λ (e : DayChange). e ∷ changes) first ∙ ap (λ (es : List DayChange). d ∷ es) rest

-- sound days are determined by their rows
pub one_days : {years : List CalendarYearRow} {days more : List HolidayRow}
    {changed : List ChangedHolidayRow} {given : List YearDays} {added : List ℕ}
    {changes : List DayChange} {others : List YearDays} {more_added : List ℕ}
    {more_changes : List DayChange} → AreSoundDays years days more changed given added changes
    → AreSoundDays years days more changed others more_added more_changes
    → (given ≡ others) × ((added ≡ more_added) × (changes ≡ more_changes))
one_days {given = given} {added = added} {changes = changes} {others = others}
    {more_added = more_added} {more_changes = more_changes} p q = (
      one_calendars given others p.sound.calendars q.sound.calendars
          (sym p.rows.calendars ∙ q.rows.calendars)
          (sym p.rows.calendar_days ∙ q.rows.calendar_days),
      (
        one_added added more_added (sym p.rows.added_days ∙ q.rows.added_days),
        one_changes [] changes more_changes (sym p.rows.changed_days ∙ q.rows.changed_days),
      ),
    )

-- ---- of a state

-- the days of a state are sound without the rest of it, and the other way round
pub without_rest : (s : State) → AreDaysSound s
    → AreDaysSound (days_only s.calendars s.added_days s.changed_days)
without_rest s sound = record {
  calendars = sound.calendars;
  are_calendars = sound.are_calendars;
  added_days = sound.added_days;
  few = sound.few;
  days_once = sound.days_once;
  changed = sound.changed;
  change_counts = sound.change_counts;
}

pub with_rest : (s : State) → AreDaysSound (days_only s.calendars s.added_days s.changed_days)
    → AreDaysSound s
with_rest s sound = record {
  calendars = sound.calendars;
  are_calendars = sound.are_calendars;
  added_days = sound.added_days;
  few = sound.few;
  days_once = sound.days_once;
  changed = sound.changed;
  change_counts = sound.change_counts;
}

module _ (t : Tables) (s : State) (keeps : KeepsDays t s) (sound : AreDaysSound s) where
  are_its : AreSoundDays (t CalendarYears) (t Holidays) (t AddedHolidays) (t ChangedHolidays)
      s.calendars s.added_days s.changed_days
  are_its = record { rows = keeps; sound = without_rest s sound }

  -- tables that keep the sound days of a state are not read as None
  pub not_none : ReadsDays None t → ⊥
  not_none none = none s.calendars s.added_days s.changed_days are_its

  -- and what is read of them are its days
  pub kept_are : (kept : KeptDays) → ReadsDays (Some kept) t
      → (map calendar_in kept.calendars.items ≡ s.calendars)
      × ((kept.added.items ≡ s.added_days)
      × (map change_in kept.changes.items ≡ s.changed_days))
  kept_are kept reads = one_days reads are_its

-- The holidays of a year, by its rows, are those that the state keeps of it.
use Rattle.std.proofs.Common.{◌≡◌, ℕ, suc, pos, Bool, false, List, [], ◌∷◌, map, None, Some}
use Rattle.std.proofs.Common.{Vec, inl, inr, refl, sym, ap, subst, ◌∙◌}
use Rattle.std.specs.Prelude.{◌==◌, ◌||◌, ◌&&◌, filter, length, is_some}
use Rattle.std.specs.List.{list_any}
use Rattle.std.specs.Ordering.{int_eq}
use Rattle.std.proofs.lemmas.Bool.{true≢false, cases_Bool}
use Rattle.std.proofs.lemmas.List.{length-map}
use Rattle.std.proofs.lemmas.List.Folds.{list_any-append}
use Rattle.std.proofs.lemmas.List.Sorted.{list_any-IsPermutation, length_permutation}
use Rattle.ftd_rules.proofs.Members.{filter_in, filter_out}
use Rattle.ftd_days.specs.Calendar.{year_of}
use Rattle.ftd_days.specs.Business.{is_holiday}
use Rattle.ftd_days.specs.Holidays.{holidays_of}
use Rattle.ftd_days.proofs.Years.{eq_same}
use Rattle.ftd_sql.specs.declared.TableName.TheVariants.{AddedHolidays}
use Rattle.ftd_sql.specs.Rows.{HolidayRow}
use Rattle.ftd_sql.specs.Standing.{Tables}
use Rattle.ftd_sql.specs.Tests.{is_holiday_of}
use Rattle.ftd_store.specs.Cells.{day_number}
use Rattle.ftd_store.specs.Lists.{Pairs}
use Rattle.ftd_store.specs.Finds.{IsHoliday, FindsCalendar, ListsAdded}
use Rattle.ftd_store.specs.Corrections.{ListsHolidayChanges}
use Rattle.ftd_store.specs.Holidays.{HasHolidays, is_holiday_in, is_kept}
use Rattle.ftd_store.specs.declared.correction_cells.HolidayChange.{HolidayChange}
use Rattle.ftd_machine.specs.State.{State, days_of, calendar_at, added_in, holidays, all_days}
use Rattle.ftd_machine.specs.State.{is_in_force}
use Rattle.ftd_machine.specs.Sound.{IsSound}
use Rattle.ftd_machine.proofs.InYear.{AreFiled, filed_of, in_calendar, none_of, own_year}
use Rattle.ftd_machine.proofs.InYear.{never_added, is_in}
use Rattle.ftd_machine.proofs.Keeping.{is_year}
use Rattle.ftd_machine.proofs.Members.{found_none}
use Rattle.ftd_entries.specs.Standing.{StandsFor, KeepsDays, added_entry}
use Rattle.ftd_entries.proofs.CalendarRows.{year_cell, calendar_kept}
use Rattle.ftd_entries.proofs.DayCells.{same_day}
use Rattle.ftd_entries.proofs.DayChanges.{kept_known}
use Rattle.ftd_days.proofs.Among.{is_among}

-- ---- the holidays that were added to a year

-- the row is that of the day
abbrev is_row_of : ℕ → HolidayRow → Bool
is_row_of day row = int_eq row.day (day_number day)

rows_of_year : (year : ℕ) (ds : List ℕ) → filter (is_holiday_of (pos year)) (map added_entry ds)
    ≡ map added_entry (filter (is_in year) ds)
rows_of_year year [] = refl
rows_of_year year (d ∷ ds) =
    let test : HolidayRow → Bool = is_holiday_of (pos year) in
    let rest = rows_of_year year ds in
    let cell : test (added_entry d) ≡ is_in year d = year_cell (year_of d) year in
    elim (cases_Bool (is_in year d)) [
      | inl mine ↦
          filter_in test (added_entry d) (map added_entry ds) (cell ∙ mine)
          ∙ (ap (λ rows. added_entry d ∷ rows) rest
          ∙ sym (ap (map added_entry) (filter_in (is_in year) d ds mine)))
      | inr other ↦
          filter_out test (added_entry d) (map added_entry ds) (cell ∙ other)
          ∙ (rest ∙ sym (ap (map added_entry) (filter_out (is_in year) d ds other)))
    ]

any_entry : (day : ℕ) (ds : List ℕ) → list_any (is_row_of day) (map added_entry ds) ≡ is_holiday ds
    day
any_entry day [] = refl
any_entry day (d ∷ ds) =
    ap (λ b. b || list_any (is_row_of day) (map added_entry ds)) (same_day d day)
    ∙ ap (λ b. (d == day) || b) (any_entry day ds)

any_paired : (day year : ℕ) (rows : List HolidayRow) (days : List ℕ)
    → Pairs (IsHoliday year) rows days → list_any (is_row_of day) rows ≡ is_holiday days day
any_paired day year [] [] pairs = refl
any_paired day year [] (d ∷ days) pairs = absurd pairs
any_paired day year (row ∷ rows) [] pairs = absurd pairs
any_paired day year (row ∷ rows) (d ∷ days) pairs =
    ap (λ r. is_row_of day r || list_any (is_row_of day) rows) pairs.0
    ∙ (ap (λ b. b || list_any (is_row_of day) rows) (same_day d day) ∙ ap (λ b. (d == day) || b)
    (any_paired day year rows days pairs.1))

count_paired : (year : ℕ) (rows : List HolidayRow) (days : List ℕ)
    → Pairs (IsHoliday year) rows days → length rows ≡ length days
count_paired year [] [] pairs = refl
count_paired year [] (d ∷ days) pairs = absurd pairs
count_paired year (row ∷ rows) [] pairs = absurd pairs
count_paired year (row ∷ rows) (d ∷ days) pairs =
    ap (λ n. suc n) (count_paired year rows days pairs.1)

module _ {A : Type 0} (year : ℕ) (added : Vec ℕ A) (t : Tables) (s : State) (keeps : KeepsDays t s)
    (listed : ListsAdded year added t) where
  rows_are : filter (is_holiday_of (pos year)) (t AddedHolidays) ≡ map added_entry (added_in s year)
  rows_are = ap (filter (is_holiday_of (pos year))) keeps.added_days
      ∙ rows_of_year year s.added_days

  -- the days that were listed as added to the year are those that the state keeps so
  pub added_known : (day : ℕ) → is_holiday added.items day ≡ is_holiday (added_in s year) day
  added_known day =
      sym (any_paired day year listed.ordered added.items listed.pairs)
      ∙ (sym (list_any-IsPermutation (is_row_of day)
      (filter (is_holiday_of (pos year)) (t AddedHolidays)) listed.ordered listed.same)
      ∙ (ap (list_any (is_row_of day)) rows_are ∙ any_entry day (added_in s year)))

  -- and as many
  pub added_counted : length added.items ≡ length (added_in s year)
  added_counted =
      sym (count_paired year listed.ordered added.items listed.pairs)
      ∙ (length_permutation (filter (is_holiday_of (pos year)) (t AddedHolidays)) listed.ordered
      listed.same
      ∙ (ap length rows_are ∙ length-map (added_in s year) added_entry))

-- ---- both

module _ (t : Tables) (s : State) (keeps : KeepsDays t s) (sound : IsSound s) where
  filed : AreFiled s.calendars
  filed = filed_of s sound

  -- a day of a year whose calendar was found is a holiday if it was given or added, and no change
  -- took it back
  pub holiday_known : {A B C : Type 0} (given : Vec ℕ A) (added : Vec ℕ B)
      (changes : Vec HolidayChange C) (year day : ℕ)
      → FindsCalendar year (Some given) t → ListsAdded year added t
      → ListsHolidayChanges year changes t → year_of day ≡ year
      → is_holiday (holidays s) day ≡ is_holiday_in given.items added.items changes.items day
  holiday_known given added changes year day finds lists all its =
      let known : calendar_at s (year_of day) ≡ Some given.items = ap (calendar_at s) its
      ∙ calendar_kept year (Some given) t s keeps sound finds in
      let of_given = in_calendar day s.calendars given.items sound.calendars filed known in
      let of_added : is_holiday s.added_days day ≡ is_holiday added.items day =
      sym (own_year day s.added_days) ∙ (ap (λ y. is_holiday (added_in s y) day) its
      ∙ sym (added_known year added t s keeps lists day)) in
      let kept : is_kept changes.items day ≡ is_in_force s.changed_days day =
      kept_known day changes t s.changed_days keeps.changed_days
      (subst (λ y. ListsHolidayChanges y changes t) (sym its) all) in
      is_among (is_in_force s.changed_days) (all_days s) day
      ∙ ap (λ b. b && is_in_force s.changed_days day)
      (list_any-append (λ h. h == day) (holidays_of s.calendars) s.added_days
      ∙ (ap (λ b. b || is_holiday s.added_days day) of_given
      ∙ ap (λ b. is_holiday given.items day || b) of_added))
      ∙ ap (λ b. (is_holiday given.items day || is_holiday added.items day) && b) (sym kept)

  -- no day of a year whose calendar was not found is one
  pub holiday_unknown : (A : Type 0) (year day : ℕ) → FindsCalendar {A = A} year None t
      → year_of day ≡ year → is_holiday (holidays s) day ≡ false
  holiday_unknown A year day finds its =
      let none : calendar_at s (year_of day) ≡ None = ap (calendar_at s) its
      ∙ calendar_kept {A = A} year None t s keeps sound finds in
      let of_given : is_holiday (holidays_of s.calendars) day ≡ false =
      none_of day s.calendars filed
      (λ c has same. found_none days_of (is_year (year_of day)) s.calendars none c has
      (eq_same c.year (year_of day) same)) in
      let of_added : is_holiday s.added_days day ≡ false =
      never_added day s.added_days (λ d has same. true≢false (sym (sound.added_days d has)
      ∙ (ap (λ x. is_some (calendar_at s (year_of x))) same ∙ ap is_some none))) in
      is_among (is_in_force s.changed_days) (all_days s) day
      ∙ ap (λ b. b && is_in_force s.changed_days day)
      (list_any-append (λ h. h == day) (holidays_of s.calendars) s.added_days
      ∙ (ap (λ b. b || is_holiday s.added_days day) of_given ∙ of_added))

-- a day of a year that was read is a holiday if the state keeps it as one
pub holiday_kept : (t : Tables) (s : State) → KeepsDays t s → IsSound s → (read : List ℕ)
    (year day : ℕ) → HasHolidays t read year → year_of day ≡ year
    → is_holiday (holidays s) day ≡ is_holiday read day
holiday_kept t s keeps sound read year day has its =
    holiday_known t s keeps sound has.given has.added has.changes year day has.is_given
    has.are_added has.are_changes its ∙ sym (has.same day its)

pub holiday_read : (t : Tables) (s : State) → StandsFor t s → IsSound s → (read : List ℕ)
    (year day : ℕ) → HasHolidays t read year → year_of day ≡ year
    → is_holiday (holidays s) day ≡ is_holiday read day
holiday_read t s stands = holiday_kept t s stands.entries.days

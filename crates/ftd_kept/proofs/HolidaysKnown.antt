-- Days that were listed of a year and told are those that were given or added, each with whether it
-- is a holiday.
use Rattle.std.proofs.Common.{◌≡◌, ◌∙◌, refl, sym, ap, subst, ℕ, ◌==◌, Bool, true, false, List, []}
use Rattle.std.proofs.Common.{◌∷◌, ◌++◌, map, Some, Vec, if◌then◌else◌}
use Rattle.std.proofs.Common.{inl, inr}
use Rattle.std.specs.Prelude.{find, option_map}
use Rattle.std.proofs.lemmas.Bool.{eqb-true}
use Rattle.ftd_days.specs.Calendar.{year_of}
use Rattle.ftd_days.specs.Holidays.{YearDays}
use Rattle.ftd_rules.specs.Lists.{Has}
use Rattle.ftd_sql.specs.Standing.{Tables}
use Rattle.ftd_store.specs.declared.correction_cells.HolidayChange.{HolidayChange}
use Rattle.ftd_store.specs.Corrections.{ListsHolidayChanges}
use Rattle.ftd_store.specs.Finds.{ListsAdded}
use Rattle.ftd_store.specs.Holidays.{is_kept}
use Rattle.ftd_machine.specs.Kept.{kept_holiday}
use Rattle.ftd_machine.specs.Limits.{are_rising}
use Rattle.ftd_machine.specs.Sound.{IsSound}
use Rattle.ftd_machine.specs.State.{State, calendar_at, days_of, is_in_force}
use Rattle.ftd_machine.specs.declared.kept.KeptHoliday.{KeptHoliday}
use Rattle.ftd_machine.proofs.InYear.{filed_of}
use Rattle.ftd_machine.proofs.Keeping.{is_year}
use Rattle.ftd_entries.proofs.DayChanges.{kept_known}
use Rattle.ftd_kept.specs.Kept.{KnowsHolidays, told_days, told_holiday}
use Rattle.ftd_kept.proofs.KeptAdded.{added_are, days_rise}

-- the calendar that is found of a year is one of the year, with these days
found_calendar : (year : ℕ) (days : List ℕ) (cs : List YearDays)
    → option_map days_of (find (is_year year) cs) ≡ Some days
    → (c : YearDays) × Has cs c × (c.year ≡ year) × (c.days ≡ days)
found_calendar year days [] found = absurd cc
found_calendar year days (c ∷ cs) found =
    step (c.year == year) refl found (found_calendar year days cs)
  where
    step : (b : Bool) → (c.year == year) ≡ b
        → option_map days_of (if b then Some c else find (is_year year) cs) ≡ Some days
        → (option_map days_of (find (is_year year) cs) ≡ Some days
        → (d : YearDays) × Has cs d × (d.year ≡ year) × (d.days ≡ days))
        → (d : YearDays) × Has (c ∷ cs) d × (d.year ≡ year) × (d.days ≡ days)
    step true its is later =
        let same : c.days ≡ days = cc in (c, inl refl, eqb-true c.year year its, same)
    step false its is later =
        let rest = later is in (rest.0, inr rest.1, rest.2, rest.3)

-- the days of a calendar are days of its year
given_in : (s : State) → IsSound s → (year : ℕ) (given : List ℕ) → calendar_at s year ≡ Some given
    → (day : ℕ) → Has given day → year_of day ≡ year
given_in s sound year given found day has =
    let c = found_calendar year given s.calendars found in
    filed_of s sound c.0 c.1 day (subst (λ ds. Has ds day) (sym c.3) has) ∙ c.2

-- days are told as they are kept, where these changes say of each what the state does
told_same : (changes : List HolidayChange) (s : State) (added : Bool) (days : List ℕ)
    → ((day : ℕ) → Has days day → is_kept changes day ≡ is_in_force s.changed_days day)
    → map (told_holiday changes added) days ≡ map (kept_holiday s added) days
told_same changes s added [] same = refl
told_same changes s added (day ∷ days) same =
    let rest = told_same changes s added days (λ d has. same d (inr has)) in
    let here : told_holiday changes added day ≡ kept_holiday s added day =
    ap (λ b. record { day = day; added = added; is_holiday = b }) (same day (inl refl)) in
    ap (λ (x : KeptHoliday). x ∷ map (told_holiday changes added) days) here
    ∙ ap (λ (xs : List KeptHoliday). kept_holiday s added day ∷ xs) rest

pub knows_holidays : {A : Type 0} (year : ℕ) (given : List ℕ) (added : Vec ℕ A)
    (changes : Vec HolidayChange A) (rows : List KeptHoliday) (t : Tables)
    → are_rising added.items ≡ true → rows ≡ told_days changes.items given added.items
    → ListsAdded year added t → ListsHolidayChanges year changes t
    → KnowsHolidays year given rows t
knows_holidays year given added changes rows t rise as_told lists all = record {
  added = added.items;
  rising = days_rise added.items rise;
  all = λ s stands. added_are year t s stands added.items lists;
  told = λ s stands sound found.
      (let kept : (day : ℕ) → year_of day ≡ year
      → is_kept changes.items day ≡ is_in_force s.changed_days day =
      λ day its. kept_known day changes t s.changed_days stands.entries.days.changed_days
      (subst (λ y. ListsHolidayChanges y changes t) (sym its) all) in
      let of_given = told_same changes.items s false given
      (λ day has. kept day (given_in s sound year given found day has)) in
      let of_added = told_same changes.items s true added.items
      (λ day has. kept day ((added_are year t s stands added.items lists day).0 has).1) in
      as_told
      ∙ ap (λ (xs : List KeptHoliday).
      xs ++ map (told_holiday changes.items true) added.items) of_given
      ∙ ap (λ (xs : List KeptHoliday). map (kept_holiday s false) given ++ xs) of_added);
}

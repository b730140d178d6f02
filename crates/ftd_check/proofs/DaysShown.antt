-- Sound days are those that their rows show, and each of their rows shows a value.
use Rattle.std.proofs.Common.{◌≡◌, ◌∙◌, ◌+◌, ◌≤◌, ℕ, inl, inr, refl, sym, ap, subst}
use Rattle.std.proofs.Common.{Bool, List, [], ◌∷◌, ◌++◌, map, filter, length, arith, append_assoc}
use Rattle.std.specs.Prelude.{◌==◌, nat_le, flat_map}
use Rattle.std.specs.List.{All}
use Rattle.std.proofs.lemmas.Bool.{and_parts, eqb-true, leb-true}
use Rattle.std.proofs.lemmas.List.{length-map, length-append}
use Rattle.std.proofs.lemmas.List.Concat.{flat_map-cons}
use Rattle.std.proofs.lemmas.List.Elements.{filter-append}
use Rattle.ftd_days.specs.Calendar.{year_of}
use Rattle.ftd_days.specs.Holidays.{YearDays, holidays_of}
use Rattle.ftd_days.proofs.Months.{day_in_years}
use Rattle.ftd_rules.specs.Lists.{Has}
use Rattle.ftd_rules.proofs.Members.{has_mapped, some_pass}
use Rattle.ftd_rules.proofs.Owed.{has_append}
use Rattle.ftd_rules.proofs.Rising.{all_has}
use Rattle.ftd_sql.specs.Answers.{calendar_year_shown, year_holiday_shown}
use Rattle.ftd_sql.specs.Answers.{year_holiday_change_shown}
use Rattle.ftd_sql.specs.Rows.{HolidayRow}
use Rattle.ftd_store.specs.AddedRows.{IsYearHolidayCells, IsYearHolidayChangeCells}
use Rattle.ftd_store.specs.Cells.{IsCountCells}
use Rattle.ftd_store.specs.Rows.{holiday_row}
use Rattle.ftd_store.proofs.Readable.{calendar_year_readable, holiday_readable}
use Rattle.ftd_store.proofs.Readable.{holiday_change_readable}
use Rattle.ftd_machine.specs.declared.limits.TheConstants.{MOST_NUMBER}
use Rattle.ftd_machine.specs.Sound.{year_of_calendar}
use Rattle.ftd_machine.specs.State.{DayChange, changes_of, is_on_day, says_holiday}
use Rattle.ftd_machine.proofs.DaysOnce.{calendar_with}
use Rattle.ftd_machine.proofs.Few.{fits_year}
use Rattle.ftd_entries.specs.Standing.{calendar_entry, holiday_entries, added_entry, change_entry}
use Rattle.ftd_entries.specs.Standing.{with_earlier}
use Rattle.ftd_sound.specs.Parts.{AreDaysSound}
use Rattle.ftd_check.specs.Days.{days_only}

-- ---- lists

-- what stands in a list with those before it
parted : {X : Type 0} (before xs : List X) (p : List X × X) → Has (with_earlier before xs) p
    → (rest : List X) × (before ++ xs ≡ p.0 ++ p.1 ∷ rest) × Has xs p.1
parted before [] p has = absurd has
parted before (x ∷ xs) p (inl is) =
    let first : p.0 ≡ before = ap (λ q. q.0) is in
    let second : p.1 ≡ x = ap (λ q. q.1) is in
    (xs, rw (first, second) refl, inl second)
parted {X = X} before (x ∷ xs) p (inr has) =
    let later = parted (before ++ x ∷ []) xs p has in
    (later.0, sym (append_assoc before (x ∷ []) xs) ∙ later.1, inr later.2)

-- ---- sound days

module _ (given : List YearDays) (added : List ℕ) (changes : List DayChange)
    (sound : AreDaysSound (days_only given added changes)) where
  year_below : (c : YearDays) → Has given c → c.year ≤ 2099
  year_below c has =
      let fits = (sound.are_calendars c has).0 in
      leb-true c.year 2099 (and_parts (nat_le 2001 c.year) (nat_le c.year 2099) fits).1

  given_day : (c : YearDays) → Has given c → (day : ℕ) → Has c.days day → year_of day ≡ c.year
  given_day c has day on = fits_year c.year c.days day (sound.are_calendars c has).1 on

  added_below : (day : ℕ) → Has added day → year_of day ≤ 2099
  added_below day has =
      let from = has_mapped year_of_calendar given (year_of day) (sound.added_days day has) in
      subst (λ (year : ℕ). year ≤ 2099) (sym from.2) (year_below from.0 from.1)

  changed_below : (c : DayChange) → Has changes c → year_of c.day ≤ 2099
  changed_below c has =
      let found = some_pass (λ (h : ℕ). h == c.day) (holidays_of given ++ added)
      (sound.changed c has) in
      let same = eqb-true found.0 c.day found.2 in
      let below : year_of found.0 ≤ 2099 =
      elim (has_append (holidays_of given) added found.0 found.1) [
        | inl of_given ↦ (let from = calendar_with given found.0 of_given in
            subst (λ (year : ℕ). year ≤ 2099) (sym (given_day from.0 from.1 found.0 from.2))
            (year_below from.0 from.1))
        | inr of_added ↦ added_below found.0 of_added
      ] in
      subst (λ (day : ℕ). year_of day ≤ 2099) same below

  -- fewer changes of a day come before one than there are
  earlier_few : (p : List DayChange × DayChange) → Has (with_earlier [] changes) p
      → length (changes_of p.1.day p.0) ≤ MOST_NUMBER
  earlier_few p has =
      let parts = parted [] changes p has in
      let day = p.1.day in
      let most = sound.change_counts day in
      let test : DayChange → Bool = is_on_day day in
      let split : filter test changes ≡ filter test p.0 ++ filter test (p.1 ∷ parts.0) =
      ap (filter test) parts.1 ∙ filter-append test p.0 (p.1 ∷ parts.0) in
      let sizes = ap (λ (cs : List DayChange). length cs) split
      ∙ length-append (filter test p.0) (filter test (p.1 ∷ parts.0)) in
      let all = length-map (filter test changes) says_holiday in
      let some = length-map (filter test p.0) says_holiday in
      omega arith

  -- ---- their rows show values

  pub years_readable : All IsCountCells (map calendar_year_shown (map calendar_entry given))
  years_readable =
      all_has IsCountCells (map calendar_year_shown (map calendar_entry given)) (λ row has.
      let of_row = has_mapped calendar_year_shown (map calendar_entry given) row has in
      let of_entry = has_mapped calendar_entry given of_row.0 of_row.1 in
      let below = year_below of_entry.0 of_entry.1 in
      subst IsCountCells (sym (of_row.2 ∙ ap calendar_year_shown of_entry.2))
      (calendar_year_readable of_entry.0.year (omega arith)))

  holiday_shown : (year day : ℕ) → year ≤ 2099 → year_of day ≤ 2099
      → IsYearHolidayCells (year_holiday_shown (holiday_row year day))
  holiday_shown year day low below =
      holiday_readable (record { day = day; year = year }) (day_in_years day (omega arith))
      (omega arith)

  in_calendars : (cs : List YearDays) (row : HolidayRow) → Has (flat_map holiday_entries cs) row
      → (c : YearDays) × Has cs c × Has (holiday_entries c) row
  in_calendars [] row has = absurd has
  in_calendars (c ∷ cs) row has =
      elim (has_append (holiday_entries c) (flat_map holiday_entries cs) row
      (subst (λ (rows : List HolidayRow). Has rows row) (flat_map-cons holiday_entries c cs) has)) [
        | inl here ↦ (c, inl refl, here)
        | inr later ↦ (let rest = in_calendars cs row later in (rest.0, inr rest.1, rest.2))
      ]

  pub holidays_readable : All IsYearHolidayCells (map year_holiday_shown
      (flat_map holiday_entries given))
  holidays_readable =
      all_has IsYearHolidayCells (map year_holiday_shown (flat_map holiday_entries given))
      (λ row has.
      let of_row = has_mapped year_holiday_shown (flat_map holiday_entries given) row has in
      let calendar = in_calendars given of_row.0 of_row.1 in
      let c = calendar.0 in
      let of_day = has_mapped (holiday_row c.year) c.days of_row.0 calendar.2 in
      let below = year_below c calendar.1 in
      subst IsYearHolidayCells (sym (of_row.2 ∙ ap year_holiday_shown of_day.2))
      (holiday_shown c.year of_day.0 below (subst (λ (year : ℕ). year ≤ 2099)
      (sym (given_day c calendar.1 of_day.0 of_day.1)) below)))

  pub added_readable : All IsYearHolidayCells (map year_holiday_shown (map added_entry added))
  added_readable =
      all_has IsYearHolidayCells (map year_holiday_shown (map added_entry added)) (λ row has.
      let of_row = has_mapped year_holiday_shown (map added_entry added) row has in
      let of_day = has_mapped added_entry added of_row.0 of_row.1 in
      let below = added_below of_day.0 of_day.1 in
      subst IsYearHolidayCells (sym (of_row.2 ∙ ap year_holiday_shown of_day.2))
      (holiday_shown (year_of of_day.0) of_day.0 below below))

  change_readable : (p : List DayChange × DayChange) → Has (with_earlier [] changes) p
      → IsYearHolidayChangeCells (year_holiday_change_shown (change_entry p))
  change_readable p has =
      let below = changed_below p.1 (parted [] changes p has).2 in
      let few = earlier_few p has in
      holiday_change_readable (record {
        change = record {
          day = p.1.day;
          number = length (changes_of p.1.day p.0) + 1;
          is_holiday = p.1.is_holiday;
        };
        year = year_of p.1.day;
      }) (day_in_years p.1.day (omega arith)) (omega arith) (omega arith)

  pub changes_readable : All IsYearHolidayChangeCells (map year_holiday_change_shown
      (map change_entry (with_earlier [] changes)))
  changes_readable =
      let rows = map change_entry (with_earlier [] changes) in
      all_has IsYearHolidayChangeCells (map year_holiday_change_shown rows) (λ row has.
      let of_row = has_mapped year_holiday_change_shown rows row has in
      let of_change = has_mapped change_entry (with_earlier [] changes) of_row.0 of_row.1 in
      subst IsYearHolidayChangeCells (sym (of_row.2 ∙ ap year_holiday_change_shown of_change.2))
      (change_readable of_change.0 of_change.1))

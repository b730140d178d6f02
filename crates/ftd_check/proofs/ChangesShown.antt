-- Changes of days are those that their rows show, numbered in their order.
use Rattle.std.proofs.Common.{◌≡◌, ◌∙◌, ◌+◌, ℕ, refl, sym, ap, Bool, true, false, List}
use Rattle.std.proofs.Common.{[], ◌∷◌, ◌++◌, map, filter, length, ◌⊎◌, inl, inr, take, drop, get_or}
use Rattle.std.proofs.Common.{◌<◌, suc, drop-cons, add-one}
use Rattle.std.specs.Prelude.{◌==◌, ◌&&◌}
use Rattle.std.specs.List.{count_by, list_all}
use Rattle.std.proofs.lemmas.Bool.{cases_Bool, and_parts, eqb-true, eq-eqb}
use Rattle.std.proofs.lemmas.List.{map-append, length-map, take_more}
use Rattle.std.proofs.lemmas.List.Sums.{length-filter}
use Rattle.ftd_days.specs.Calendar.{year_of}
use Rattle.ftd_rules.proofs.Members.{filter_in, filter_out}
use Rattle.ftd_sql.specs.Rows.{ChangedHolidayRow}
use Rattle.ftd_store.specs.Added.{year_holiday_change_row}
use Rattle.ftd_store.specs.Rows.{holiday_change_row}
use Rattle.ftd_store.specs.declared.added_cells.YearHolidayChange.{YearHolidayChange}
use Rattle.ftd_machine.specs.State.{DayChange, changes_of, is_on_day, says_holiday}
use Rattle.ftd_entries.specs.Standing.{change_entry, with_earlier}
use Rattle.ftd_entries.proofs.Found.{day_is, flag_is}
use Rattle.ftd_entries.proofs.Kept.{same_nat}
use Rattle.ftd_check.specs.Private.DayRows.{change_shown, is_numbered, is_on}
use Rattle.ftd_check.proofs.CalendarsShown.{both_true}

-- ---- how many are of a day

kept_on : (day : ℕ) (xs : List YearHolidayChange)
    → filter (is_on_day day) (map change_shown xs) ≡ map change_shown (filter (is_on day) xs)
kept_on day [] = refl
kept_on day (x ∷ xs) = by (cases_Bool (is_on day x)) (kept_on day xs)
  where
    by : (is_on day x ≡ true) ⊎ (is_on day x ≡ false)
        → filter (is_on_day day) (map change_shown xs) ≡ map change_shown (filter (is_on day) xs)
        → filter (is_on_day day) (map change_shown (x ∷ xs))
        ≡ map change_shown (filter (is_on day) (x ∷ xs))
    by (inl is) rest =
        filter_in (is_on_day day) (change_shown x) (map change_shown xs) is
        ∙ ap (λ (cs : List DayChange). change_shown x ∷ cs) rest
        ∙ sym (ap (map change_shown) (filter_in (is_on day) x xs is))
    by (inr not) rest =
        filter_out (is_on_day day) (change_shown x) (map change_shown xs) not ∙ rest
        ∙ sym (ap (map change_shown) (filter_out (is_on day) x xs not))

counted_on : (day : ℕ) (xs : List YearHolidayChange)
    → length (changes_of day (map change_shown xs)) ≡ count_by (is_on day) xs
counted_on day xs =
    length-map (filter (is_on_day day) (map change_shown xs)) says_holiday
    ∙ ap (λ (cs : List DayChange). length cs) (kept_on day xs)
    ∙ length-map (filter (is_on day) xs) change_shown
    ∙ length-filter (is_on day) xs

-- ---- one row

abbrev Numbered : List YearHolidayChange → YearHolidayChange → Type 0
Numbered before x =
    (year_of x.change.day ≡ x.year) × (count_by (is_on x.change.day) before + 1 ≡ x.change.number)

abbrev numbered_row : YearHolidayChange → ℕ → ChangedHolidayRow
numbered_row x n = holiday_change_row (year_of x.change.day) (record {
  day = x.change.day;
  number = n;
  is_holiday = x.change.is_holiday;
})

row_is : (before : List YearHolidayChange) (x : YearHolidayChange) → Numbered before x
    → year_holiday_change_row x ≡ change_entry (map change_shown before, change_shown x)
row_is before x (year, number) =
    let counted = counted_on x.change.day before in
    ap (λ (y : ℕ). holiday_change_row y x.change) (sym year)
    ∙ ap (numbered_row x)
    (sym number ∙ ap (λ (n : ℕ). n + 1) (sym counted))

abbrev pub change_on : ℕ → Bool → DayChange
change_on day is_holiday = record { day = day; is_holiday = is_holiday }

is_row : (before : List YearHolidayChange) (x : YearHolidayChange) (c : DayChange)
    → year_holiday_change_row x ≡ change_entry (map change_shown before, c)
    → (change_shown x ≡ c) × Numbered before x
is_row before x c same =
    let day = day_is x.change.day c.day (ap (λ (r : ChangedHolidayRow). r.day) same) in
    let holiday = flag_is x.change.is_holiday c.is_holiday
    (ap (λ (r : ChangedHolidayRow). r.is_holiday) same) in
    let year = same_nat x.year (year_of c.day) (ap (λ (r : ChangedHolidayRow). r.year) same) in
    let number = same_nat x.change.number
    (length (changes_of c.day (map change_shown before)) + 1)
    (ap (λ (r : ChangedHolidayRow). r.number) same) in (
      ap (λ (d : ℕ). change_on d x.change.is_holiday) day
          ∙ ap (λ (b : Bool). change_on c.day b) holiday,
      (
        ap year_of day ∙ sym year,
        ap (λ (d : ℕ). count_by (is_on d) before + 1) day
            ∙ ap (λ (n : ℕ). n + 1) (sym (counted_on c.day before)) ∙ sym number,
      ),
    )

-- ---- decided

numbered_of : (before : List YearHolidayChange) (x : YearHolidayChange)
    → is_numbered (before, x) ≡ true → Numbered before x
numbered_of before x is =
    let parts = and_parts (year_of x.change.day == x.year)
    (count_by (is_on x.change.day) before + 1 == x.change.number) is in (
      eqb-true (year_of x.change.day) x.year parts.0,
      eqb-true (count_by (is_on x.change.day) before + 1) x.change.number parts.1,
    )

of_numbered : (before : List YearHolidayChange) (x : YearHolidayChange) → Numbered before x
    → is_numbered (before, x) ≡ true
of_numbered before x (year, number) =
    both_true (year_of x.change.day == x.year)
    (count_by (is_on x.change.day) before + 1 == x.change.number)
    (eq-eqb (year_of x.change.day) x.year year)
    (eq-eqb (count_by (is_on x.change.day) before + 1) x.change.number number)

-- ---- all rows

one_behind : (before : List YearHolidayChange) (x : YearHolidayChange)
    → map change_shown (before ++ x ∷ []) ≡ map change_shown before ++ change_shown x ∷ []
one_behind before x = map-append change_shown before (x ∷ [])

rows_behind : (before xs : List YearHolidayChange)
    → list_all is_numbered (with_earlier before xs) ≡ true
    → map year_holiday_change_row xs
    ≡ map change_entry (with_earlier (map change_shown before) (map change_shown xs))
rows_behind before [] all = refl
rows_behind before (x ∷ xs) all =
    let parts = and_parts (is_numbered (before, x))
    (list_all is_numbered (with_earlier (before ++ x ∷ []) xs)) all in
    let entry = change_entry (map change_shown before, change_shown x) in
    let rest = rows_behind (before ++ x ∷ []) xs parts.1 in
    ap (λ (r : ChangedHolidayRow). r ∷ map year_holiday_change_row xs)
    (row_is before x (numbered_of before x parts.0))
    ∙ ap (λ (rows : List ChangedHolidayRow).
    change_entry (map change_shown before, change_shown x) ∷ rows)
    (rest ∙ ap (λ (earlier : List DayChange).
    map change_entry (with_earlier earlier (map change_shown xs))) (one_behind before x))

-- rows that are numbered show changes
pub changes_shown_by : (rows : List YearHolidayChange)
    → list_all is_numbered (with_earlier [] rows) ≡ true
    → map year_holiday_change_row rows ≡ map change_entry (with_earlier [] (map change_shown rows))
changes_shown_by rows all = rows_behind [] rows all

behind_are : (before xs : List YearHolidayChange) (changes : List DayChange)
    → map year_holiday_change_row xs
    ≡ map change_entry (with_earlier (map change_shown before) changes)
    → (map change_shown xs ≡ changes) × (list_all is_numbered (with_earlier before xs) ≡ true)
behind_are before [] [] same = (refl, refl)
behind_are before [] (c ∷ changes) same = absurd cc
behind_are before (x ∷ xs) [] same = absurd cc
behind_are before (x ∷ xs) (c ∷ changes) same =
    let head : year_holiday_change_row x ≡ change_entry (map change_shown before, c) = cc in
    let tail : map year_holiday_change_row xs
    ≡ map change_entry (with_earlier (map change_shown before ++ c ∷ []) changes) = cc in
    let here = is_row before x c head in
    let earlier : map change_shown before ++ c ∷ [] ≡ map change_shown (before ++ x ∷ []) =
    ap (λ (d : DayChange). map change_shown before ++ d ∷ []) (sym here.0)
    ∙ sym (one_behind before x) in
    let rest = behind_are (before ++ x ∷ []) xs changes
    (tail ∙ ap (λ (ds : List DayChange). map change_entry (with_earlier ds changes)) earlier) in (
      ap (λ (d : DayChange). d ∷ map change_shown xs) here.0
          ∙ ap (λ (ds : List DayChange). c ∷ ds) rest.0,
      both_true (is_numbered (before, x))
          (list_all is_numbered (with_earlier (before ++ x ∷ []) xs)) (of_numbered before x here.1)
          rest.1,
    )

-- changes are those that their rows show, which are numbered
pub changes_are : (rows : List YearHolidayChange) (changes : List DayChange)
    → map year_holiday_change_row rows ≡ map change_entry (with_earlier [] changes)
    → (map change_shown rows ≡ changes) × (list_all is_numbered (with_earlier [] rows) ≡ true)
changes_are rows changes same = behind_are [] rows changes same

-- ---- one after the other

-- the next one, and then those that are left
pub numbered_step : (xs : List YearHolidayChange) (i : ℕ) (x : YearHolidayChange) → i < length xs
    → x ≡ get_or xs i x → list_all is_numbered (with_earlier (take i xs) (drop i xs))
    ≡ (is_numbered (take i xs, x)
    && list_all is_numbered (with_earlier (take (i + 1) xs) (drop (i + 1) xs)))
numbered_step xs i x inside here =
    let at : drop i xs ≡ x ∷ drop (i + 1) xs =
    drop-cons xs i x inside ∙ ap (λ (z : YearHolidayChange). z ∷ drop (suc i) xs) (sym here)
    ∙ ap (λ (n : ℕ). x ∷ drop n xs) (sym (add-one i)) in
    let more : take (i + 1) xs ≡ take i xs ++ x ∷ [] =
    take_more xs i x inside
    ∙ ap (λ (z : YearHolidayChange). take i xs ++ z ∷ []) (sym here) in
    ap (λ (ys : List YearHolidayChange). list_all is_numbered (with_earlier (take i xs) ys)) at
    ∙ ap (λ (before : List YearHolidayChange). is_numbered (take i xs, x)
    && list_all is_numbered (with_earlier before (drop (i + 1) xs))) (sym more)

-- The days that were read year by year are those of the journal of the days.
use Rattle.std.proofs.Common.{◌≡◌, ◌∙◌, inl, inr, refl, sym, ap, subst, ℕ, ◌+◌, pos}
use Rattle.std.proofs.Common.{Bool, true, List, [], ◌∷◌, ◌++◌, map, None, Some, Vec}
use Rattle.std.proofs.Common.{append-nil, arith}
use Rattle.std.proofs.Math.IntN.{◌+ℤ◌, -ℤ-+ℤ_cancel}
use Rattle.std.specs.Prelude.{filter, find, flat_map, nat_lt, option_map, IsPermutation}
use Rattle.std.proofs.lemmas.Bool.{cases_Bool, eqb-true}
use Rattle.std.proofs.lemmas.Grind.{flat_map-append}
use Rattle.std.proofs.lemmas.Int.{ints}
use Rattle.std.proofs.lemmas.List.{map-append, map-id}
use Rattle.std.proofs.lemmas.List.Sorted.{IsPermutation-append_right, IsPermutation-sym}
use Rattle.std.proofs.lemmas.List.Sorted.{IsPermutation-trans}
use Rattle.std.proofs.lemmas.Option.{same_Some}
use Rattle.ftd_days.specs.Calendar.{year_of}
use Rattle.ftd_days.specs.Holidays.{YearDays, holidays_of}
use Rattle.ftd_rules.specs.Lists.{Has, KeysRise, KeysDoNotFall}
use Rattle.ftd_rules.proofs.Members.{filter_in, filter_out}
use Rattle.ftd_rules.proofs.Rising.{sorted_is}
use Rattle.ftd_sql.specs.Orders.{HolidaysRise}
use Rattle.ftd_sql.specs.Rows.{HolidayRow}
use Rattle.ftd_sql.specs.Standing.{Tables}
use Rattle.ftd_sql.specs.Tests.{is_holiday_of}
use Rattle.ftd_store.specs.Corrections.{ListsHolidayChanges}
use Rattle.ftd_store.specs.Finds.{FindsCalendar, ListsAdded}
use Rattle.ftd_store.specs.Holidays.{words_on}
use Rattle.ftd_store.specs.Rows.{holiday_row}
use Rattle.ftd_store.specs.declared.correction_cells.HolidayChange.{HolidayChange}
use Rattle.ftd_machine.specs.Journal.{calendar_given, corrections, day_changes}
use Rattle.ftd_machine.specs.Journal.{holiday_added, in_order, is_calendar_before}
use Rattle.ftd_machine.specs.Sound.{AreDistinct, IsSound, year_of_calendar}
use Rattle.ftd_machine.specs.State.{State, all_days, changes_of, days_of}
use Rattle.ftd_machine.specs.declared.requests.Entry.TheVariants as entry
use Rattle.ftd_machine.specs.declared.requests.Request.{Request}
use Rattle.ftd_machine.specs.declared.requests.Request.TheVariants.{Enter}
use Rattle.ftd_machine.proofs.DaysOnce.{once_right}
use Rattle.ftd_machine.proofs.Found.{filter_apart, filter_none, find_one}
use Rattle.ftd_machine.proofs.InOrder.{has_ordered, ordered_is}
use Rattle.ftd_machine.proofs.Keeping.{is_year}
use Rattle.ftd_machine.proofs.Members.{found_none, found_some, has_filtered}
use Rattle.ftd_entries.specs.Standing.{StandsFor, added_entry}
use Rattle.ftd_entries.proofs.CalendarRows.{calendar_known, whole, year_cell}
use Rattle.ftd_entries.proofs.DayChanges.{words_known}
use Rattle.ftd_entries.proofs.Found.{day_is}
use Rattle.ftd_journal.specs.Days.{KnowsDays, as_itself, calendar_in_year, changes_in_year}
use Rattle.ftd_journal.specs.Days.{changes_on, day_correction, holidays_in_year}
use Rattle.ftd_journal.specs.Days.{is_calendar_of, is_day_of, part_of_year, whole_part}
use Rattle.ftd_journal.specs.Parts.{AddsPart}
use Rattle.ftd_journal.specs.declared.days.DaysPart.{DaysPart}
use Rattle.ftd_journal.specs.declared.days.DaysPart.TheVariants.{Calendars, Changes, Holidays}
use Rattle.ftd_journal.proofs.ByKey.{listed_as, rows_that_pass}
use Rattle.ftd_machine.proofs.Orders.{ordered_rises}
use Rattle.ftd_journal.proofs.PartsAdded.{part_then}
use Rattle.ftd_journal.proofs.YearByYear.{all_earlier, earlier, none_earlier, of_year}
use Rattle.ftd_journal.proofs.YearByYear.{one_year_more, ordered_those}
use Rattle.ftd_journal.proofs.YearsOfDays.{IsFrom, added_in, calendar_in, day_in, given_or_none}
use Rattle.ftd_journal.proofs.YearsOfDays.{in_year, none_in, years_do_not_fall}

-- ---- the calendar of a year

one_passes : {X K : Type 0} (test : X → Bool) (key : X → K) (xs : List X) (x : X)
    → AreDistinct key xs → Has xs x → test x ≡ true
    → ((y : X) → Has xs y → test y ≡ true → key y ≡ key x) → filter test xs ≡ x ∷ []
one_passes test key [] x apart has is one = absurd has
one_passes test key (z ∷ xs) x apart (inl same) is one =
    filter_in test z xs (sym (ap test same) ∙ is)
    ∙ ap (λ ys. z ∷ ys) (filter_none test xs
    (λ y there passes. apart.0 y there (one y (inr there) passes ∙ ap key same)))
    ∙ ap (λ y. y ∷ []) (sym same)
one_passes test key (z ∷ xs) x apart (inr has) is one =
    elim (cases_Bool (test z)) [
      | inl passes ↦ absurd (apart.0 x has (sym (one z (inl refl) passes)))
      | inr off ↦ filter_out test z xs off
          ∙ one_passes test key xs x apart.1 has is (λ y there. one y (inr there))
    ]

same_calendar : (c : YearDays) (year : ℕ) (days : List ℕ) → c.year ≡ year → c.days ≡ days
    → c ≡ record { year = year; days = days }
same_calendar c year days at its = λ i. record { year = at i; days = its i }

calendar_some : (year : ℕ) (days : List ℕ) (cs : List YearDays) → AreDistinct year_of_calendar cs
    → option_map days_of (find (is_year year) cs) ≡ Some days
    → filter (is_calendar_of year) cs ≡ record { year = year; days = days } ∷ []
calendar_some year days cs apart is =
    let d = found_some days_of (is_year year) cs days is in
    let c : YearDays = d.0 in
    let at : c.year ≡ year = eqb-true c.year year d.2 in
    let found : find (is_year year) cs ≡ Some c =
    find_one (is_year year) year_of_calendar cs c apart d.1 d.2
    (λ x has passes. at ∙ sym (eqb-true x.year year passes)) in
    let its : c.days ≡ days =
    same_Some c.days days (sym (ap (option_map days_of) found) ∙ is) in
    one_passes (is_calendar_of year) year_of_calendar cs c apart d.1 d.2
    (λ y has passes. eqb-true y.year year passes ∙ sym at)
    ∙ ap (λ (g : YearDays). g ∷ []) (same_calendar c year days at its)

pub calendar_absent : (A : Type 0) (year : ℕ) (before : List Request) (t : Tables)
    → FindsCalendar {A = A} year None t → AddsPart (calendar_in_year year) before before t
calendar_absent A year before t finds s stands sound =
    let none = calendar_known {A = A} year None t s stands sound finds in
    sym (ap (λ cs. before ++ map calendar_given cs)
    (filter_none (is_calendar_of year) (in_order is_calendar_before s.calendars)
    (λ c has is. found_none days_of (is_year year) s.calendars none c
    (has_ordered is_calendar_before s.calendars c has) is)) ∙ append-nil before)

pub calendar_added : {A : Type 0} (year : ℕ) (days : Vec ℕ A) (before after : List Request)
    (t : Tables) → FindsCalendar year (Some days) t
    → after ≡ before ++ Enter (entry.Calendar year days.items) ∷ []
    → AddsPart (calendar_in_year year) before after t
calendar_added year days before after t finds is s stands sound =
    is ∙ sym (ap (λ cs. before ++ map calendar_given cs)
    (ordered_those year_of_calendar (is_calendar_of year) s.calendars sound.calendars
    ∙ ap (in_order is_calendar_before)
    (calendar_some year days.items s.calendars sound.calendars
    (calendar_known year (Some days) t s stands sound finds))))

-- ---- the added holidays of a year

abbrev day_key : HolidayRow → ℕ
day_key row = whole (row.day +ℤ pos 25_567)

same_row : (year a b : ℕ) → holiday_row year a ≡ holiday_row year b → a ≡ b
same_row year a b is = day_is a b (ap (λ (r : HolidayRow). r.day) is)

rows_of_year : (year : ℕ) (days : List ℕ) → ((day : ℕ) → Has days day → year_of day ≡ year)
    → map added_entry days ≡ map (holiday_row year) days
rows_of_year year [] its = refl
rows_of_year year (day ∷ days) its =
    ap (λ y. holiday_row y day ∷ map added_entry days) (its day (inl refl))
    ∙ ap (λ rs. holiday_row year day ∷ rs) (rows_of_year year days (λ d has. its d (inr has)))

added_once : (s : State) → IsSound s → AreDistinct as_itself s.added_days
added_once s sound = once_right (holidays_of s.calendars) s.added_days sound.days_once

-- those that were read, put in order
added_sorted : {A : Type 0} (year : ℕ) (days : Vec ℕ A) (t : Tables) → ListsAdded year days t
    → (s : State) → StandsFor t s → IsSound s
    → days.items ≡ in_order nat_lt (filter (is_day_of year) s.added_days)
added_sorted year days t lists s stands sound =
    let own = filter (is_day_of year) s.added_days in
    sym (map-id days.items)
    ∙ listed_as (holiday_row year) (same_row year) as_itself day_key
    (λ day. ap whole (-ℤ-+ℤ_cancel (pos day) (pos 25_567))) as_itself HolidaysRise own
    (filter_apart as_itself (is_day_of year) s.added_days (added_once s sound))
    (ap (filter (is_holiday_of (pos year))) stands.entries.days.added_days
    ∙ rows_that_pass added_entry (is_holiday_of (pos year)) (is_day_of year) s.added_days
    (λ d has. year_cell (year_of d) year)
    ∙ rows_of_year year own (λ d has. eqb-true (year_of d) year
    (has_filtered (is_day_of year) s.added_days d has).1))
    days.items lists (λ a b rise. omega (arith, ints, rise))

pub days_added : {A : Type 0} (year : ℕ) (days : Vec ℕ A) (before after : List Request)
    (t : Tables) → ListsAdded year days t → after ≡ before ++ map holiday_added days.items
    → AddsPart (holidays_in_year year) before after t
days_added year days before after t lists is s stands sound =
    is ∙ ap (λ ds. before ++ map holiday_added ds)
    (added_sorted year days t lists s stands sound
    ∙ sym (ordered_those as_itself (is_day_of year) s.added_days (added_once s sound)))

-- ---- all days of a year, and their changes

pub no_days : (A : Type 0) (year : ℕ) (t : Tables) → FindsCalendar {A = A} year None t
    → KnowsDays year [] t
no_days A year t finds s stands sound =
    sym (ordered_those as_itself (is_day_of year) (all_days s) sound.days_once
    ∙ ap (in_order nat_lt) (none_in s sound year
    (calendar_known {A = A} year None t s stands sound finds)))

pub days_known : {A : Type 0} (year : ℕ) (given added : Vec ℕ A) (sorted : List ℕ) (t : Tables)
    → FindsCalendar year (Some given) t → ListsAdded year added t
    → IsPermutation (given.items ++ added.items) sorted → KeysDoNotFall as_itself sorted
    → KnowsDays year sorted t
days_known year given added sorted t finds lists moved fall s stands sound =
    let own = filter (is_day_of year) s.added_days in
    let all = filter (is_day_of year) (all_days s) in
    let are : all ≡ given.items ++ own =
    in_year s sound year ∙ ap (λ o. given_or_none o ++ own)
    (calendar_known year (Some given) t s stands sound finds) in
    let added_moved : IsPermutation own added.items =
    subst (IsPermutation own) (sym (added_sorted year added t lists s stands sound))
    (ordered_is nat_lt own) in
    let all_moved : IsPermutation all (given.items ++ added.items) =
    subst (λ ds. IsPermutation ds (given.items ++ added.items)) (sym are)
    (IsPermutation-append_right given.items own added.items added_moved) in
    sorted_is as_itself (in_order nat_lt all) sorted
    (ordered_rises as_itself all (filter_apart as_itself (is_day_of year) (all_days s)
    sound.days_once)) fall
    (IsPermutation-trans (in_order nat_lt all) all sorted
    (IsPermutation-sym all (in_order nat_lt all) (ordered_is nat_lt all))
    (IsPermutation-trans all (given.items ++ added.items) sorted all_moved moved))
    ∙ sym (ordered_those as_itself (is_day_of year) (all_days s) sound.days_once)

same_changes : (changes : List HolidayChange) (s : State) (days : List ℕ)
    → ((day : ℕ) → Has days day → words_on day changes ≡ changes_of day s.changed_days)
    → flat_map (changes_on changes) days ≡ flat_map (day_changes s) days
same_changes changes s [] same = refl
same_changes changes s (day ∷ days) same =
    ap (λ ws. corrections (day_correction day) ws ++ flat_map (changes_on changes) days)
    (same day (inl refl))
    ∙ ap (λ rs. day_changes s day ++ rs) (same_changes changes s days (λ d has. same d (inr has)))

pub changes_added : {A : Type 0} (year : ℕ) (days : List ℕ) (changes : Vec HolidayChange A)
    (before after : List Request) (t : Tables) → KnowsDays year days t
    → ListsHolidayChanges year changes t
    → after ≡ before ++ flat_map (changes_on changes.items) days
    → AddsPart (changes_in_year year) before after t
changes_added year days changes before after t knows lists is s stands sound =
    let known = knows s stands sound in
    let ordered = in_order nat_lt (all_days s) in
    is ∙ ap (λ rs. before ++ rs)
    (same_changes changes.items s days (λ day has.
    words_known day changes t s.changed_days stands.entries.days.changed_days
    (subst (λ y. ListsHolidayChanges y changes t) (sym (eqb-true (year_of day) year
    (has_filtered (is_day_of year) ordered day (subst (λ ds. Has ds day) known has)).1)) lists))
    ∙ ap (flat_map (day_changes s)) known)

-- ---- year after year

-- what there is of the years before one, what there is of one year, and all
record GoesByYear (before own : ℕ → List Request) (all : List Request) : Type 0 where
  begin : before 2001 ≡ []
  more : (year : ℕ) → before (year + 1) ≡ before year ++ own year
  end : before 2100 ≡ all

goes_by_year : {X : Type 0} (year_in : X → ℕ) (of : List X → List Request) (xs : List X)
    → of [] ≡ [] → ((ys zs : List X) → of (ys ++ zs) ≡ of ys ++ of zs)
    → KeysDoNotFall year_in xs → ((x : X) → Has xs x → IsFrom (year_in x))
    → GoesByYear (λ year. of (earlier year_in year xs)) (λ year. of (of_year year_in year xs))
    (of xs)
goes_by_year year_in of xs none joined fall from = record {
  begin = ap of (none_earlier year_in 2001 xs (λ x has. (from x has).0)) ∙ none;
  more = λ year.
      ap of (one_year_more year_in year xs fall)
      ∙ joined (earlier year_in year xs) (of_year year_in year xs);
  end = ap of (all_earlier year_in 2100 xs
      (λ x has. (let to = (from x has).1 in omega arith)));
}

-- of a part what there is of the years before one
abbrev pub part_until : DaysPart → ℕ → State → List Request
part_until Calendars year s =
    map calendar_given (earlier year_of_calendar year (in_order is_calendar_before s.calendars))
part_until Holidays year s =
    map holiday_added (earlier year_of year (in_order nat_lt s.added_days))
part_until Changes year s =
    flat_map (day_changes s) (earlier year_of year (in_order nat_lt (all_days s)))

fall_of : {X : Type 0} (key : X → ℕ) (xs : List X) → KeysRise key xs → KeysDoNotFall key xs
fall_of key [] rise = tt
fall_of key (x ∷ xs) rise = (
  (λ later has. (let less = rise.0 later has in omega arith)),
  fall_of key xs rise.1,
)

-- days put in order, each of a year that can have a calendar
days_by_year : (of : List ℕ → List Request) (days : List ℕ) → AreDistinct as_itself days
    → of [] ≡ [] → ((ys zs : List ℕ) → of (ys ++ zs) ≡ of ys ++ of zs)
    → ((day : ℕ) → Has days day → IsFrom (year_of day))
    → GoesByYear (λ year. of (earlier year_of year (in_order nat_lt days)))
    (λ year. of (of_year year_of year (in_order nat_lt days))) (of (in_order nat_lt days))
days_by_year of days apart none joined from =
    goes_by_year year_of of ordered none joined
    (years_do_not_fall ordered within (ordered_rises as_itself days apart)) within
  where
    ordered : List ℕ
    ordered = in_order nat_lt days

    within : (day : ℕ) → Has ordered day → IsFrom (year_of day)
    within day has = from day (has_ordered nat_lt days day has)

part_by_year : (part : DaysPart) (s : State) → IsSound s
    → GoesByYear (λ year. part_until part year s) (λ year. part_of_year part year s)
    (whole_part part s)
part_by_year Calendars s sound =
    let calendars = in_order is_calendar_before s.calendars in
    goes_by_year year_of_calendar (map calendar_given) calendars refl (map-append calendar_given)
    (fall_of year_of_calendar calendars
    (ordered_rises year_of_calendar s.calendars sound.calendars))
    (λ c has. calendar_in s sound c (has_ordered is_calendar_before s.calendars c has))
part_by_year Holidays s sound =
    days_by_year (map holiday_added) s.added_days (added_once s sound) refl
    (map-append holiday_added) (added_in s sound)
part_by_year Changes s sound =
    days_by_year (flat_map (day_changes s)) (all_days s) sound.days_once refl
    (flat_map-append (day_changes s)) (day_in s sound)

-- the part so far: of the first year, of one year more, and of the last
module _ (part : DaysPart) where
  pub part_begins : (before after : List Request) (t : Tables)
      → AddsPart (part_of_year part 2001) before after t
      → AddsPart (part_until part 2002) before after t
  part_begins before after t adds s stands sound =
      let by = part_by_year part s sound in
      adds s stands sound
      ∙ ap (λ rs. before ++ rs)
      (sym (by.more 2001 ∙ ap (λ rs. rs ++ part_of_year part 2001 s) by.begin))

  pub part_more : (year : ℕ) (before mid after : List Request) (t : Tables)
      → AddsPart (part_until part year) before mid t
      → AddsPart (part_of_year part year) mid after t
      → AddsPart (part_until part (year + 1)) before after t
  part_more year before mid after t so_far one s stands sound =
      part_then (part_until part year) (part_of_year part year) before mid after t so_far one s
      stands sound
      ∙ ap (λ rs. before ++ rs) (sym ((part_by_year part s sound).more year))

  pub part_ends : (year : ℕ) (before after : List Request) (t : Tables) → year ≡ 2100
      → AddsPart (part_until part year) before after t
      → AddsPart (whole_part part) before after t
  part_ends year before after t is adds s stands sound =
      adds s stands sound
      ∙ ap (λ rs. before ++ rs)
      (ap (λ y. part_until part y s) is ∙ (part_by_year part s sound).end)

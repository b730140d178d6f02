-- Calendars are those that their rows show, and added holidays too.
use Rattle.std.proofs.Common.{◌≡◌, ◌∙◌, ℕ, inl, inr, refl, sym, ap, subst, Bool, true}
use Rattle.std.proofs.Common.{List, [], ◌∷◌, ◌++◌, map, filter, append-nil}
use Rattle.std.specs.Prelude.{◌&&◌, flat_map}
use Rattle.std.specs.List.{list_all}
use Rattle.std.proofs.lemmas.Bool.{and_parts, eqb-true, eq-eqb}
use Rattle.std.proofs.lemmas.List.{map-append}
use Rattle.std.proofs.lemmas.List.Concat.{flat_map-cons}
use Rattle.std.proofs.lemmas.List.Elements.{filter-append}
use Rattle.ftd_days.specs.Calendar.{year_of}
use Rattle.ftd_days.specs.Holidays.{YearDays}
use Rattle.ftd_rules.specs.Lists.{Has}
use Rattle.ftd_rules.proofs.Members.{has_mapped}
use Rattle.ftd_sql.specs.Rows.{HolidayRow, CalendarYearRow}
use Rattle.ftd_store.specs.Rows.{calendar_year_row, holiday_row}
use Rattle.ftd_store.specs.Added.{year_holiday_row}
use Rattle.ftd_store.specs.declared.added_cells.YearHoliday.{YearHoliday}
use Rattle.ftd_machine.specs.Sound.{AreDistinct, year_of_calendar}
use Rattle.ftd_machine.proofs.Found.{filter_all, filter_none}
use Rattle.ftd_entries.specs.Standing.{calendar_entry, holiday_entries, added_entry}
use Rattle.ftd_entries.proofs.Found.{day_is}
use Rattle.ftd_entries.proofs.Kept.{same_nat}
use Rattle.ftd_check.specs.Private.DayRows.{calendar_shown, day_shown, days_shown, is_stored_for}
use Rattle.ftd_check.specs.Private.DayRows.{is_of_own_year}

-- ---- lists

-- a list is determined by what is made of each of it
pub mapped_once : {X Y : Type 0} (f : X → Y) → ((a b : X) → f a ≡ f b → a ≡ b) → (xs ys : List X)
    → map f xs ≡ map f ys → xs ≡ ys
mapped_once f once [] [] same = refl
mapped_once f once [] (y ∷ ys) same = absurd cc
mapped_once f once (x ∷ xs) [] same = absurd cc
mapped_once {X = X} f once (x ∷ xs) (y ∷ ys) same =
    let head : f x ≡ f y = cc in
    let tail : map f xs ≡ map f ys = cc in
    ap (λ (z : X). z ∷ xs) (once x y head)
    ∙ ap (λ (zs : List X). y ∷ zs) (mapped_once f once xs ys tail)

-- each of it is made so of its key
made_of_keys : {X K : Type 0} (key : X → K) (make : K → X) (xs : List X)
    → ((x : X) → Has xs x → make (key x) ≡ x) → map make (map key xs) ≡ xs
made_of_keys key make [] each = refl
made_of_keys {X = X} key make (x ∷ xs) each =
    ap (λ (z : X). z ∷ map make (map key xs)) (each x (inl refl))
    ∙ ap (λ (zs : List X). x ∷ zs) (made_of_keys key make xs (λ y has. each y (inr has)))

-- ---- rows of holidays

abbrev pub stored : ℕ → ℕ → YearHoliday
stored year day = record { day = day; year = year }

-- a holiday is determined by its row
pub holiday_parts : (a b : YearHoliday) → year_holiday_row a ≡ year_holiday_row b
    → (a.day ≡ b.day) × (a.year ≡ b.year)
holiday_parts a b same = (
  day_is a.day b.day (ap (λ (r : HolidayRow). r.day) same),
  same_nat a.year b.year (ap (λ (r : HolidayRow). r.year) same),
)

one_holiday : (a b : YearHoliday) → year_holiday_row a ≡ year_holiday_row b → a ≡ b
one_holiday a b same =
    let parts = holiday_parts a b same in
    ap (λ (day : ℕ). stored a.year day) parts.0 ∙ ap (λ (year : ℕ). stored year b.day) parts.1

abbrev pub stored_of : YearDays → List YearHoliday
stored_of c = map (stored c.year) c.days

rows_of_days : (year : ℕ) (days : List ℕ)
    → map (holiday_row year) days ≡ map year_holiday_row (map (stored year) days)
rows_of_days year [] = refl
rows_of_days year (d ∷ days) =
    ap (λ (rows : List HolidayRow). holiday_row year d ∷ rows) (rows_of_days year days)

pub rows_of_calendars : (cs : List YearDays)
    → flat_map holiday_entries cs ≡ map year_holiday_row (flat_map stored_of cs)
rows_of_calendars [] = refl
rows_of_calendars (c ∷ cs) =
    flat_map-cons holiday_entries c cs
    ∙ ap (λ (rows : List HolidayRow). rows ++ flat_map holiday_entries cs)
    (rows_of_days c.year c.days)
    ∙ ap (λ (rows : List HolidayRow). map year_holiday_row (stored_of c) ++ rows)
    (rows_of_calendars cs)
    ∙ sym (map-append year_holiday_row (stored_of c) (flat_map stored_of cs))
    ∙ ap (map year_holiday_row) (sym (flat_map-cons stored_of c cs))

-- ---- the days of a year among them

days_back : (year : ℕ) (days : List ℕ) → map day_shown (map (stored year) days) ≡ days
days_back year [] = refl
days_back year (d ∷ days) = ap (λ (ds : List ℕ). d ∷ ds) (days_back year days)

shown_append : (year : ℕ) (xs ys : List YearHoliday)
    → days_shown year (xs ++ ys) ≡ days_shown year xs ++ days_shown year ys
shown_append year xs ys =
    ap (map day_shown) (filter-append (is_stored_for year) xs ys)
    ∙ map-append day_shown (filter (is_stored_for year) xs) (filter (is_stored_for year) ys)

own_shown : (c : YearDays) → days_shown c.year (stored_of c) ≡ c.days
own_shown c =
    ap (map day_shown) (filter_all (is_stored_for c.year) (stored_of c)
    (λ x has. (let from = has_mapped (stored c.year) c.days x has in
    eq-eqb x.year c.year (ap (λ (h : YearHoliday). h.year) from.2))))
    ∙ days_back c.year c.days

other_shown : (year : ℕ) (c : YearDays) → (c.year ≡ year → ⊥) → days_shown year (stored_of c) ≡ []
other_shown year c other =
    ap (map day_shown) (filter_none (is_stored_for year) (stored_of c)
    (λ x has is. (let from = has_mapped (stored c.year) c.days x has in
    other (sym (ap (λ (h : YearHoliday). h.year) from.2) ∙ eqb-true x.year year is))))

first_shown : (year : ℕ) (c : YearDays) (cs : List YearDays)
    → days_shown year (flat_map stored_of (c ∷ cs))
    ≡ days_shown year (stored_of c) ++ days_shown year (flat_map stored_of cs)
first_shown year c cs =
    ap (days_shown year) (flat_map-cons stored_of c cs)
    ∙ shown_append year (stored_of c) (flat_map stored_of cs)

none_shown : (year : ℕ) (cs : List YearDays) → ((c : YearDays) → Has cs c → c.year ≡ year → ⊥)
    → days_shown year (flat_map stored_of cs) ≡ []
none_shown year [] other = refl
none_shown year (c ∷ cs) other =
    first_shown year c cs
    ∙ ap (λ (ds : List ℕ). ds ++ days_shown year (flat_map stored_of cs))
    (other_shown year c (other c (inl refl)))
    ∙ none_shown year cs (λ d has. other d (inr has))

-- those of the year of a calendar are its days
calendar_days : (cs : List YearDays) → AreDistinct year_of_calendar cs → (c : YearDays) → Has cs c
    → days_shown c.year (flat_map stored_of cs) ≡ c.days
calendar_days [] apart c has = absurd has
calendar_days (z ∷ cs) apart c (inl is) =
    subst (λ (d : YearDays). days_shown d.year (flat_map stored_of (z ∷ cs)) ≡ d.days) (sym is)
    (first_shown z.year z cs
    ∙ ap (λ (ds : List ℕ). ds ++ days_shown z.year (flat_map stored_of cs)) (own_shown z)
    ∙ ap (λ (ds : List ℕ). z.days ++ ds)
    (none_shown z.year cs (λ d has same. apart.0 d has same))
    ∙ append-nil z.days)
calendar_days (z ∷ cs) apart c (inr has) =
    first_shown c.year z cs
    ∙ ap (λ (ds : List ℕ). ds ++ days_shown c.year (flat_map stored_of cs))
    (other_shown c.year z (λ same. apart.0 c has (sym same)))
    ∙ calendar_days cs apart.1 c has

-- ---- calendars

pub years_of : (cs : List YearDays) → map calendar_entry cs ≡ map calendar_year_row
    (map year_of_calendar cs)
years_of [] = refl
years_of (c ∷ cs) =
    ap (λ (rows : List CalendarYearRow). calendar_entry c ∷ rows) (years_of cs)

back_to_years : (holidays : List YearHoliday) (years : List ℕ)
    → map calendar_entry (map (calendar_shown holidays) years) ≡ map calendar_year_row years
back_to_years holidays [] = refl
back_to_years holidays (y ∷ years) =
    ap (λ (rows : List CalendarYearRow). calendar_year_row y ∷ rows) (back_to_years holidays years)

-- the years of the calendars that are shown are the years of the rows
pub years_shown : (holidays : List YearHoliday) (years : List ℕ)
    → map calendar_year_row years ≡ map calendar_entry (map (calendar_shown holidays) years)
years_shown holidays years = sym (back_to_years holidays years)

abbrev with_year : ℕ → List ℕ → YearDays
with_year year days = record { year = year; days = days }

-- calendars of years that differ are those that their rows show
pub calendars_are : (years : List ℕ) (holidays : List YearHoliday) (given : List YearDays)
    → AreDistinct year_of_calendar given → map calendar_year_row years ≡ map calendar_entry given
    → map year_holiday_row holidays ≡ flat_map holiday_entries given
    → map (calendar_shown holidays) years ≡ given
calendars_are years holidays given apart of_years of_days =
    let same_years = mapped_once calendar_year_row
    (λ a b same. same_nat a b (ap (λ (r : CalendarYearRow). r.year) same)) years
    (map year_of_calendar given) (of_years ∙ years_of given) in
    let same_days = mapped_once year_holiday_row one_holiday holidays (flat_map stored_of given)
    (of_days ∙ rows_of_calendars given) in
    ap (map (calendar_shown holidays)) same_years
    ∙ made_of_keys year_of_calendar (calendar_shown holidays) given
    (λ c has. ap (λ (days : List ℕ). with_year c.year days)
    (ap (days_shown c.year) same_days ∙ calendar_days given apart c has))

-- ---- added holidays

pub both_true : (a b : Bool) → a ≡ true → b ≡ true → (a && b) ≡ true
both_true a b x y = rw (x, y) refl

-- added holidays are those that their rows show, each of the year of its day
pub added_are : (rows : List YearHoliday) (added : List ℕ)
    → map year_holiday_row rows ≡ map added_entry added
    → (map day_shown rows ≡ added) × (list_all is_of_own_year rows ≡ true)
added_are [] [] same = (refl, refl)
added_are [] (d ∷ added) same = absurd cc
added_are (r ∷ rows) [] same = absurd cc
added_are (r ∷ rows) (d ∷ added) same =
    let head : year_holiday_row r ≡ year_holiday_row (stored (year_of d) d) = cc in
    let tail : map year_holiday_row rows ≡ map added_entry added = cc in
    let parts = holiday_parts r (stored (year_of d) d) head in
    let rest = added_are rows added tail in (
      ap (λ (x : ℕ). x ∷ map day_shown rows) parts.0 ∙ ap (λ (xs : List ℕ). d ∷ xs) rest.0,
      both_true (is_of_own_year r) (list_all is_of_own_year rows)
          (eq-eqb (year_of r.day) r.year (ap year_of parts.0 ∙ sym parts.1)) rest.1,
    )

-- and rows of the years of their days show added holidays
pub added_shown : (rows : List YearHoliday) → list_all is_of_own_year rows ≡ true
    → map year_holiday_row rows ≡ map added_entry (map day_shown rows)
added_shown [] own = refl
added_shown (r ∷ rows) own =
    let parts = and_parts (is_of_own_year r) (list_all is_of_own_year rows) own in
    ap (λ (year : ℕ). holiday_row year r.day ∷ map year_holiday_row rows)
    (sym (eqb-true (year_of r.day) r.year parts.0))
    ∙ ap (λ (more : List HolidayRow). added_entry r.day ∷ more) (added_shown rows parts.1)

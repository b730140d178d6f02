-- The holidays of years are added to those of the years before them.
use Rattle.std.proofs.Common.{◌≡◌, ◌≢◌, ◌⊎◌, ℕ, ◌+◌, ◌<◌, ◌≤◌, ◌==◌, ◌||◌, Bool, true, false, inl}
use Rattle.std.proofs.Common.{inr, List, [], ◌∷◌, ◌++◌, take, length, get_or, refl, sym, ap, ◌∙◌}
use Rattle.std.proofs.Common.{subst, arith}
use Rattle.std.specs.Prelude.{All, filter, ◌&&◌}
use Rattle.std.specs.List.{list_any}
use Rattle.std.proofs.lemmas.Bool.{cases_Bool, eqb-true}
use Rattle.std.proofs.lemmas.Grind.{flat_map-append}
use Rattle.std.proofs.lemmas.List.Elements.{All-head, All-tail}
use Rattle.std.proofs.lemmas.List.Folds.{list_any-append}
use Rattle.std.proofs.Math.Bool.{or-false}
use Rattle.ftd_days.specs.Business.{is_holiday}
use Rattle.ftd_days.specs.Calendar.{year_of}
use Rattle.ftd_days.specs.Holidays.{YearDays, holidays_of}
use Rattle.ftd_days.proofs.Among.{is_among}
use Rattle.ftd_sql.specs.Standing.{Tables}
use Rattle.ftd_store.specs.declared.correction_cells.HolidayChange.{HolidayChange}
use Rattle.ftd_store.specs.Holidays.{HasHolidays, HasYears, AddsYear, is_holiday_in, is_kept}
use Rattle.ftd_store.proofs.Items.{taken}

-- ---- days that are added to a list

or_more : (a b c d : Bool) → ((a || (b || c)) || d) ≡ (a || (b || (c || d)))
or_more true b c d = refl
or_more false true c d = refl
or_more false false c d = refl

-- the holidays of one more year
pub year_added : (given : List YearDays) (year : ℕ) (days : List ℕ) (day : ℕ)
    → is_holiday (holidays_of (given ++ (record { year = year; days = days }) ∷ [])) day
    ≡ (is_holiday (holidays_of given) day || (is_holiday days day || is_holiday [] day))
year_added given year days day =
    let one : List YearDays = (record { year = year; days = days }) ∷ [] in
    let days_of : YearDays → List ℕ = λ g. g.days in
    let p : ℕ → Bool = λ holiday. holiday == day in
    ap (λ (hs : List ℕ). list_any p hs) (flat_map-append days_of given one)
    ∙ (list_any-append p (holidays_of given) (days ++ [])
    ∙ ap (λ b. is_holiday (holidays_of given) day || b) (list_any-append p days []))

-- one more day of the year
pub day_added : (old given added : List ℕ) (i x day : ℕ) (so_far now : Bool) → i < length added
    → x ≡ get_or added i x
    → so_far ≡ (is_holiday old day || (is_holiday given day || is_holiday (take i added) day))
    → now ≡ (so_far || (x == day))
    → now ≡ (is_holiday old day || (is_holiday given day || is_holiday (take (i + 1) added) day))
day_added old given added i x day so_far now some is had more =
    let p : ℕ → Bool = λ holiday. holiday == day in
    let last : is_holiday (take (i + 1) added) day ≡ (is_holiday (take i added) day || (x == day)) =
    ap (λ (hs : List ℕ). is_holiday hs day) (taken added i x some is)
    ∙ (list_any-append p (take i added) (x ∷ []) ∙ ap (λ b. is_holiday (take i added) day || b)
    (or-false (x == day))) in
    more ∙ (ap (λ b. b || (x == day)) had
    ∙ (or_more (is_holiday old day) (is_holiday given day) (is_holiday (take i added) day)
    (x == day) ∙ ap (λ b. is_holiday old day || (is_holiday given day || b)) (sym last)))

-- a day of another year is none of the days of a year
none_elsewhere : (year day : ℕ) (days : List ℕ) → All (λ d. year_of d ≡ year) days
    → year_of day ≢ year → is_holiday days day ≡ false
none_elsewhere year day [] all other = refl
none_elsewhere year day (d ∷ days) all other =
    let P : ℕ → Type 0 = λ x. year_of x ≡ year in
    let rest = none_elsewhere year day days (All-tail P d days all) other in
    elim (cases_Bool (d == day)) [
      | inl same ↦ absurd (other (ap year_of (sym (eqb-true d day same)) ∙ All-head P d days all))
      | inr apart ↦ rw apart rest
    ]

pub both_elsewhere : (year : ℕ) (given added : List ℕ) → All (λ d. year_of d ≡ year) given
    → All (λ d. year_of d ≡ year) added → (day : ℕ) → year_of day ≢ year
    → (is_holiday given day || is_holiday added day) ≡ false
both_elsewhere year given added all_given all_added day other = ap (λ b. b || is_holiday added day)
    (none_elsewhere year day given all_given other) ∙ none_elsewhere year day added all_added other

-- ---- those that changes keep

either_kept : (a b c : Bool) → ((a && c) || (b && c)) ≡ ((a || b) && c)
either_kept true true true = refl
either_kept true true false = refl
either_kept true false true = refl
either_kept true false false = refl
either_kept false b c = refl

pub both_kept : (given added : List ℕ) (changes : List HolidayChange) (day : ℕ)
    → (is_holiday (filter (is_kept changes) given) day
    || is_holiday (filter (is_kept changes) added) day)
    ≡ is_holiday_in given added changes day
both_kept given added changes day =
    ap (λ b. b || is_holiday (filter (is_kept changes) added) day)
    (is_among (is_kept changes) given day)
    ∙ ap (λ b. (is_holiday given day && is_kept changes day) || b)
    (is_among (is_kept changes) added day)
    ∙ either_kept (is_holiday given day) (is_holiday added day) (is_kept changes day)

-- ---- year by year

-- the holidays of the years from the first on that are before `year` were read, and no others
pub record ReadSoFar (first year : ℕ) (holidays : List ℕ) (t : Tables) : Type 0 where
  pub early : year ≤ 2100
  pub none_yet : (day : ℕ) → year ≤ year_of day → is_holiday holidays day ≡ false
  pub had : (earlier : ℕ) → first ≤ earlier → earlier < year → HasHolidays t holidays earlier

pub none_read : (first : ℕ) (holidays : List ℕ) (t : Tables) → first ≤ 2100 → holidays ≡ []
    → ReadSoFar first first holidays t
none_read first holidays t early none = record {
  early = early;
  none_yet = λ day late. ap (λ (hs : List ℕ). is_holiday hs day) none;
  had = λ earlier low high. absurd (omega arith);
}

-- of a list that has the same days in the year
same_holidays : (year : ℕ) (old new : List ℕ) (t : Tables)
    → ((day : ℕ) → year_of day ≡ year → is_holiday new day ≡ is_holiday old day)
    → HasHolidays t old year → HasHolidays t new year
same_holidays year old new t still k =
    let same : (day : ℕ) → year_of day ≡ year → is_holiday new day
    ≡ is_holiday_in k.given.items k.added.items k.changes.items day =
    λ day here. still day here ∙ k.same day here in
    search

-- of a list to which the year's were added, where it had none of them
holidays_added : (year : ℕ) (old new : List ℕ) (t : Tables)
    → ((day : ℕ) → year_of day ≡ year → is_holiday old day ≡ false) → AddsYear year old new t
    → HasHolidays t new year
holidays_added year old new t none adds =
    let same : (day : ℕ) → year_of day ≡ year → is_holiday new day
    ≡ is_holiday_in adds.given.items adds.added.items adds.changes.items day =
    λ day here. rw (none day here) at (adds.same day) in
    search

at_or_before : (a b : ℕ) → a < b + 1 → (a < b) ⊎ (a ≡ b)
at_or_before a b h = grind arith

pub one_more_read : (first year : ℕ) (old new : List ℕ) (t : Tables) → ReadSoFar first year old t
    → AddsYear year old new t → ReadSoFar first (year + 1) new t
one_more_read first year old new t so_far adds = record {
  early = let to = adds.to in omega arith;
  none_yet = λ day late.
      let before = so_far.none_yet day (omega arith) in
      let here = adds.elsewhere day (λ same. absurd (omega arith)) in
      rw (before, here) at (adds.same day);
  had = λ earlier low high. elim (at_or_before earlier year high) [
    | inl before ↦ same_holidays earlier old new t
        (λ day here. rw (adds.elsewhere day (λ same. absurd (omega arith)), or-false) at (adds.same
        day)) (so_far.had earlier low before)
    | inr last ↦ subst (HasHolidays t new) (sym last)
        (holidays_added year old new t (λ day here. so_far.none_yet day (omega arith)) adds)
  ];
}

-- all years are through
pub all_read : (first last year : ℕ) (holidays : List ℕ) (t : Tables) → last < year
    → ReadSoFar first year holidays t → HasYears first last holidays t
all_read first last year holidays t through so_far y low high = so_far.had y low (omega arith)

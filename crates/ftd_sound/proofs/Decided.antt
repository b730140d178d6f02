-- What is decided of the days is that they are sound.
use Rattle.std.proofs.Common.{◌≡◌, ◌∙◌, ◌++◌, ◌≤◌, ◌↔◌, ℕ, inl, inr, refl, sym, ap, subst}
use Rattle.std.proofs.Common.{Bool, true, false, List, [], ◌∷◌, map, length, eqb-true, eq-eqb, arith}
use Rattle.std.proofs.Common.{filter, suc, cond}
use Rattle.std.specs.Prelude.{◌==◌, ◌&&◌, IsTrue, count_by, nat_le}
use Rattle.std.specs.List.{list_all, list_any}
use Rattle.std.proofs.lemmas.Bool.{and_parts, cases_Bool, true≢false}
use Rattle.std.proofs.lemmas.Bool.Decides.{nat_tests}
use Rattle.std.proofs.lemmas.List.{length-map}
use Rattle.std.proofs.lemmas.List.Sums.{length-filter}
use Rattle.ftd_days.specs.Business.{is_holiday}
use Rattle.ftd_days.specs.Calendar.{year_of}
use Rattle.ftd_days.specs.Holidays.{YearDays, AreFew, holidays_of}
use Rattle.ftd_days.specs.declared.limits.TheConstants.{MOST_HOLIDAYS}
use Rattle.ftd_rules.specs.Lists.{Has}
use Rattle.ftd_rules.proofs.Members.{has_mapped, mapped_has, some_pass, any_has}
use Rattle.ftd_rules.proofs.Owed.{has_append}
use Rattle.ftd_machine.specs.declared.limits.TheConstants.{MOST_NUMBER}
use Rattle.ftd_machine.specs.Limits.{can_have_calendar, is_calendar}
use Rattle.ftd_machine.specs.Sound.{AreDistinct, year_of_calendar}
use Rattle.ftd_machine.specs.State.{all_days, changes_of}
use Rattle.ftd_machine.specs.State as state
use Rattle.ftd_machine.specs.State.{is_on_day, says_holiday}
use Rattle.ftd_machine.proofs.DaysOnce.{calendar_with}
use Rattle.ftd_machine.proofs.Found.{filter_none}
use Rattle.ftd_sound.specs.Days.{calendar_in, change_in, with_days}
use Rattle.ftd_sound.specs.Parts.{AreDaysSound}
use Rattle.ftd_sound.specs.Private.Calendars.{are_in_calendars, changes_on, days_in, day_itself, fits}
use Rattle.ftd_sound.specs.Private.Calendars.{has_few_changes, has_few_days, holds, is_changeable}
use Rattle.ftd_sound.specs.Private.Calendars.{is_of, year_of_given}
use Rattle.ftd_sound.specs.declared.days.Calendar.{Calendar}
use Rattle.ftd_sound.specs.declared.days.DayChange.{DayChange}

-- ---- lists

-- each passes, where all do; and all do, where each does
all_has : {X : Type 0} (p : X → Bool) (xs : List X) → list_all p xs ≡ true → (x : X) → Has xs x
    → p x ≡ true
all_has p [] all x has = absurd has
all_has p (y ∷ xs) all x (inl is) = ap p is ∙ (and_parts (p y) (list_all p xs) all).0
all_has p (y ∷ xs) all x (inr has) = all_has p xs (and_parts (p y) (list_all p xs) all).1 x has

has_all : {X : Type 0} (p : X → Bool) (xs : List X) → ((x : X) → Has xs x → p x ≡ true)
    → list_all p xs ≡ true
has_all p [] each = refl
has_all p (y ∷ xs) each = rw (each y (inl refl)) (has_all p xs (λ x has. each x (inr has)))

-- none is counted where none passes
none_counted : {X : Type 0} (p : X → Bool) (xs : List X) → list_any p xs ≡ false
    → count_by p xs ≡ 0
none_counted p xs none =
    sym (length-filter p xs)
    ∙ ap length (filter_none p xs (λ x has passes. true≢false (sym (any_has p xs x has passes)
    ∙ none)))

le_of : (a b : ℕ) → nat_le a b ≡ true → a ≤ b
le_of a b is = grind (arith, nat_tests)

of_le : (a b : ℕ) → a ≤ b → nat_le a b ≡ true
of_le a b is = grind (arith, nat_tests)

-- keys of what a list is made of
distinct_to : {X Y : Type 0} (f : X → Y) (key : Y → ℕ) (xs : List X)
    → AreDistinct (λ x. key (f x)) xs → AreDistinct key (map f xs)
distinct_to f key [] once = tt
distinct_to f key (x ∷ xs) once = (
  (λ later has same.
      let from = has_mapped f xs later has in
      once.0 from.0 from.1 (sym (ap key from.2) ∙ same)),
  distinct_to f key xs once.1,
)

distinct_from : {X Y : Type 0} (f : X → Y) (key : Y → ℕ) (xs : List X)
    → AreDistinct key (map f xs) → AreDistinct (λ x. key (f x)) xs
distinct_from f key [] once = tt
distinct_from f key (x ∷ xs) once = (
  (λ later has same. once.0 (f later) (mapped_has f xs later has) same),
  distinct_from f key xs once.1,
)

both : (a b : Bool) → a ≡ true → b ≡ true → (a && b) ≡ true
both a b x y = rw (x, y) refl

-- ---- calendars

module _ (calendars : List Calendar) where
  abbrev pub given : List YearDays
  given = map calendar_in calendars

  abbrev Fit : Type 0
  Fit = (c : YearDays) → Has given c
      → (can_have_calendar c.year ≡ true) × (is_calendar c.year c.days ≡ true)

  fit_to : list_all fits calendars ≡ true → Fit
  fit_to all c has =
      let from = has_mapped calendar_in calendars c has in
      let parts = and_parts (can_have_calendar from.0.year)
      (is_calendar from.0.year from.0.days.items) (all_has fits calendars all from.0 from.1) in
      subst (λ (d : YearDays). (can_have_calendar d.year ≡ true) × (is_calendar d.year d.days
      ≡ true)) (sym from.2) (parts.0, parts.1)

  fit_from : Fit → list_all fits calendars ≡ true
  fit_from each = has_all fits calendars (λ c has.
      let parts = each (calendar_in c) (mapped_has calendar_in calendars c has) in
      both (can_have_calendar c.year) (is_calendar c.year c.days.items) parts.0 parts.1)

  -- a year is given where a calendar is of it
  year_to : (year : ℕ) → list_any (is_of year) calendars ≡ true
      → Has (map year_of_calendar given) year
  year_to year some =
      let found = some_pass (is_of year) calendars some in
      subst (Has (map year_of_calendar given)) (eqb-true found.0.year year found.2)
      (mapped_has year_of_calendar given (calendar_in found.0)
      (mapped_has calendar_in calendars found.0 found.1))

  year_from : (year : ℕ) → Has (map year_of_calendar given) year
      → list_any (is_of year) calendars ≡ true
  year_from year has =
      let c = has_mapped year_of_calendar given year has in
      let d = has_mapped calendar_in calendars c.0 c.1 in
      any_has (is_of year) calendars d.0 d.1
      (eq-eqb d.0.year year (sym (c.2 ∙ ap year_of_calendar d.2)))

  module _ (added : List ℕ) where
    abbrev pub all : List ℕ
    all = holidays_of given ++ added

    abbrev Given : Type 0
    Given = (day : ℕ) → Has added day → Has (map year_of_calendar given) (year_of day)

    given_to : are_in_calendars calendars added ≡ true → Given
    given_to is day has = year_to (year_of day)
        (all_has (λ (d : ℕ). list_any (is_of (year_of d)) calendars) added is day has)

    given_from : Given → are_in_calendars calendars added ≡ true
    given_from each = has_all (λ (d : ℕ). list_any (is_of (year_of d)) calendars) added
        (λ day has. year_from (year_of day) (each day has))

    -- each day is of a year of which a calendar is given
    of_given : Fit → Given → (day : ℕ) → Has all day → Has (map year_of_calendar given) (year_of day)
    of_given fit each day has = elim (has_append (holidays_of given) added day has) [
      | inl here ↦ (let c = calendar_with given day here in
          let fits_year = and_parts _ _ (and_parts _ _ (fit c.0 c.1).1).1 in
          let same = eqb-true (year_of day) c.0.year
          (all_has (λ (d : ℕ). year_of d == c.0.year) c.0.days fits_year.0 day c.2) in
          subst (Has (map year_of_calendar given)) (sym same)
          (mapped_has year_of_calendar given c.0 c.1))
      | inr there ↦ each day there
    ]

    few_to : Fit → Given → list_all (has_few_days all) calendars ≡ true → AreFew all
    few_to fit each is year = elim (cases_Bool (list_any (λ (d : ℕ). year_of d == year) all)) [
      | inl some ↦ (let found = some_pass (λ (d : ℕ). year_of d == year) all some in
          let of_year = year_from (year_of found.0) (of_given fit each found.0 found.1) in
          let c = some_pass (is_of (year_of found.0)) calendars of_year in
          let same : c.0.year ≡ year = eqb-true c.0.year (year_of found.0) c.2
          ∙ eqb-true (year_of found.0) year found.2 in
          let few = all_has (has_few_days all) calendars is c.0 c.1 in
          subst (λ y. days_in y all ≤ MOST_HOLIDAYS) same (le_of (days_in c.0.year all) _ few))
      | inr none ↦ (let no = none_counted (λ (d : ℕ). year_of d == year) all none in omega arith)
    ]

    few_from : AreFew all → list_all (has_few_days all) calendars ≡ true
    few_from few = has_all (has_few_days all) calendars
        (λ c has. of_le (days_in c.year all) MOST_HOLIDAYS (few c.year))

-- ---- changes

-- of what a list is made of as many pass as of the list
filtered_map : {X Y : Type 0} (p : Y → Bool) (f : X → Y) (xs : List X)
    → length (filter p (map f xs)) ≡ length (filter (λ x. p (f x)) xs)
filtered_map p f [] = refl
filtered_map p f (x ∷ xs) = by (p (f x)) (filter p (map f xs)) (filter (λ y. p (f y)) xs)
    (filtered_map p f xs)
  where
    by : (b : Bool) (ys : List _) (zs : List _) → length ys ≡ length zs
        → length (cond b (f x ∷ ys) ys) ≡ length (cond b (x ∷ zs) zs)
    by true ys zs same = ap (λ n. suc n) same
    by false ys zs same = same

counted : (day : ℕ) (changes : List DayChange)
    → length (changes_of day (map change_in changes)) ≡ changes_on day changes
counted day changes =
    length-map (filter (is_on_day day) (map change_in changes)) says_holiday
    ∙ filtered_map (is_on_day day) change_in changes
    ∙ length-filter (λ (c : DayChange). c.day == day) changes

module _ (days : List ℕ) (changes : List DayChange) where
  abbrev Changed : Type 0
  Changed = (c : state.DayChange) → Has (map change_in changes) c → is_holiday days c.day ≡ true

  abbrev FewChanges : Type 0
  FewChanges = (day : ℕ) → length (changes_of day (map change_in changes)) ≤ MOST_NUMBER

  changed_to : list_all (is_changeable days) changes ≡ true → Changed
  changed_to all c has =
      let from = has_mapped change_in changes c has in
      subst (λ (d : state.DayChange). is_holiday days d.day ≡ true) (sym from.2)
      (all_has (is_changeable days) changes all from.0 from.1)

  changed_from : Changed → list_all (is_changeable days) changes ≡ true
  changed_from each = has_all (is_changeable days) changes
      (λ c has. each (change_in c) (mapped_has change_in changes c has))

  numbers_to : list_all (has_few_changes changes) changes ≡ true → FewChanges
  numbers_to all day = elim (cases_Bool (list_any (λ (c : DayChange). c.day == day) changes)) [
    | inl some ↦ (let found = some_pass (λ (c : DayChange). c.day == day) changes some in
        let same = eqb-true found.0.day day found.2 in
        let few = le_of (changes_on found.0.day changes) MOST_NUMBER
        (all_has (has_few_changes changes) changes all found.0 found.1) in
        subst (λ n. n ≤ MOST_NUMBER) (ap (λ d. changes_on d changes) same ∙ sym (counted day changes))
        few)
    | inr none ↦ (let no = counted day changes
        ∙ none_counted (λ (c : DayChange). c.day == day) changes none in
        omega arith)
  ]

  numbers_from : FewChanges → list_all (has_few_changes changes) changes ≡ true
  numbers_from few = has_all (has_few_changes changes) changes
      (λ c has. of_le (changes_on c.day changes) MOST_NUMBER
      (subst (λ n. n ≤ MOST_NUMBER) (counted c.day changes) (few c.day)))

-- ---- all

module _ (calendars : List Calendar) (added : List ℕ) (changes : List DayChange)
    (years days : Bool) (apart : IsTrue years ↔ AreDistinct year_of_given calendars)
    (once : IsTrue days ↔ AreDistinct day_itself (all calendars added)) where
  abbrev parts : List Bool
  parts =
      list_all fits calendars ∷ years ∷ are_in_calendars calendars added
      ∷ list_all (has_few_days (all calendars added)) calendars ∷ days
      ∷ list_all (is_changeable (all calendars added)) changes
      ∷ list_all (has_few_changes changes) changes ∷ []

  sound_to : list_all holds parts ≡ true → AreDaysSound (with_days calendars added changes)
  sound_to is =
      let part = all_has holds parts is in
      let fit = fit_to calendars (part _ (inl refl)) in
      let in_given = given_to calendars added (part _ (inr (inr (inl refl)))) in
      record {
        calendars = distinct_to calendar_in year_of_calendar calendars
            (apart.0 (part _ (inr (inl refl))));
        are_calendars = fit;
        added_days = in_given;
        few = few_to calendars added fit in_given (part _ (inr (inr (inr (inl refl)))));
        days_once = once.0 (part _ (inr (inr (inr (inr (inl refl))))));
        changed = changed_to (all calendars added) changes
            (part _ (inr (inr (inr (inr (inr (inl refl)))))));
        change_counts = numbers_to (all calendars added) changes
            (part _ (inr (inr (inr (inr (inr (inr (inl refl))))))));
      }

  sound_from : AreDaysSound (with_days calendars added changes) → list_all holds parts ≡ true
  sound_from sound =
      rw (
        fit_from calendars sound.are_calendars,
        apart.1 (distinct_from calendar_in year_of_calendar calendars sound.calendars),
        given_from calendars added sound.added_days,
        few_from calendars added sound.few,
        once.1 sound.days_once,
        changed_from (all calendars added) changes sound.changed,
        numbers_from (all calendars added) changes sound.change_counts,
      ) refl

  pub sound_where : (result : Bool) → result ≡ list_all holds parts
      → IsTrue result ↔ AreDaysSound (with_days calendars added changes)
  sound_where result is = ((λ so. sound_to (sym is ∙ so)), (λ sound. is ∙ sound_from sound))

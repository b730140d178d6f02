-- The days of a year that are given or added as holidays are its calendar and those added to it.
use Rattle.std.proofs.Common.{◌≡◌, ◌∙◌, ℕ, Bool, true, false, List, [], ◌∷◌, ◌++◌, None, Some}
use Rattle.std.proofs.Common.{Option, inl, inr, refl, sym, ap}
use Rattle.std.specs.Prelude.{◌==◌, ◌||◌, ◌&&◌, filter, find, nat_le, option_map, if◌then◌else◌}
use Rattle.std.specs.List.{list_any, list_all}
use Rattle.std.proofs.lemmas.Bool.{true≢false, cases_Bool, eqb-true, and_parts}
use Rattle.std.proofs.lemmas.Grind.{flat_map-append}
use Rattle.std.proofs.lemmas.List.{append-nil}
use Rattle.std.proofs.lemmas.List.Concat.{flat_map-cons}
use Rattle.std.proofs.lemmas.List.Folds.{list_any-append}
use Rattle.ftd_days.specs.Calendar.{year_of}
use Rattle.ftd_days.specs.Business.{is_holiday}
use Rattle.ftd_days.specs.Holidays.{YearDays, holidays_of}
use Rattle.ftd_days.proofs.Years.{eq_same, eq_not}
use Rattle.ftd_rules.specs.Lists.{Has}
use Rattle.ftd_machine.specs.Limits.{are_rising}
use Rattle.ftd_machine.specs.Requests.{days_of_year}
use Rattle.std.proofs.lemmas.List.Sums.{AllPass-from_list_all}
use Rattle.std.proofs.Math.Bool.{or-false}
use Rattle.ftd_rules.proofs.Rising.{has_all}
use Rattle.ftd_rules.proofs.Members.{filter_in, filter_out}
use Rattle.ftd_machine.specs.Sound.{AreDistinct, year_of_calendar, IsSound}
use Rattle.ftd_machine.specs.State.{State, days_of, calendar_at, added_in, all_days, is_given}
use Rattle.ftd_machine.proofs.Keeping.{is_year}
use Rattle.ftd_machine.proofs.Members.{found_none}

-- ---- the calendar of a year

-- each day is one of the year
abbrev pub AreDaysOf : ℕ → List ℕ → Type 0
AreDaysOf year days = (day : ℕ) → Has days day → year_of day ≡ year

not_among : (day year : ℕ) (days : List ℕ) → AreDaysOf year days → (year ≡ year_of day → ⊥)
    → is_holiday days day ≡ false
not_among day year [] its other = refl
not_among day year (d ∷ days) its other =
    ap (λ b. b || is_holiday days day)
    (eq_not d day (λ e. other (sym (its d (inl refl)) ∙ ap year_of e)))
    ∙ not_among day year days (λ x has. its x (inr has)) other

-- each calendar has days of its year
abbrev pub AreFiled : List YearDays → Type 0
AreFiled cs = (c : YearDays) → Has cs c → AreDaysOf c.year c.days

one_more : (day : ℕ) (c : YearDays) (cs : List YearDays) → is_holiday (holidays_of (c ∷ cs)) day
    ≡ (is_holiday c.days day || is_holiday (holidays_of cs) day)
one_more day c cs = ap (λ ds. is_holiday ds day) (flat_map-cons (λ (g : YearDays). g.days) c cs)
    ∙ list_any-append (λ h. h == day) c.days (holidays_of cs)

pub none_of : (day : ℕ) (cs : List YearDays) → AreFiled cs
    → ((c : YearDays) → Has cs c → c.year ≡ year_of day → ⊥) → is_holiday (holidays_of cs) day
    ≡ false
none_of day [] filed other = refl
none_of day (c ∷ cs) filed other =
    one_more day c cs
    ∙ (ap (λ b. b || is_holiday (holidays_of cs) day)
    (not_among day c.year c.days (filed c (inl refl)) (other c (inl refl)))
    ∙ none_of day cs (λ g has. filed g (inr has)) (λ g has. other g (inr has)))

pub in_calendar : (day : ℕ) (cs : List YearDays) (days : List ℕ) → AreDistinct year_of_calendar cs
    → AreFiled cs
    → option_map days_of (find (is_year (year_of day)) cs) ≡ Some days
    → is_holiday (holidays_of cs) day ≡ is_holiday days day
in_calendar day [] days apart filed found = absurd cc
in_calendar day (c ∷ cs) days apart filed found =
    one_more day c cs ∙ step (c.year == year_of day) refl found
    (in_calendar day cs days apart.1 (λ g has. filed g (inr has)))
  where
    step : (b : Bool) → (c.year == year_of day) ≡ b
        → option_map days_of (if b then Some c else find (is_year (year_of day)) cs) ≡ Some days
        → (option_map days_of (find (is_year (year_of day)) cs) ≡ Some days
        → is_holiday (holidays_of cs) day ≡ is_holiday days day)
        → (is_holiday c.days day || is_holiday (holidays_of cs) day) ≡ is_holiday days day
    step true e found more =
        let its : c.year ≡ year_of day = eqb-true c.year (year_of day) e in
        let same : c.days ≡ days = cc in
        let none = none_of day cs (λ g has. filed g (inr has))
        (λ g has is. apart.0 g has (is ∙ sym its)) in
        ap (λ b. is_holiday c.days day || b) none
        ∙ (or-false (is_holiday c.days day) ∙ ap (λ ds. is_holiday ds day) same)
    step false e found more =
        ap (λ b. b || is_holiday (holidays_of cs) day)
        (not_among day c.year c.days (filed c (inl refl)) (other (c.year == year_of day) e))
        ∙ more found
      where
        other : (b : Bool) → b ≡ false → c.year ≡ year_of day → ⊥
        other b off is = let yes_it = eq_same c.year (year_of day) is in absurd cc

-- ---- the holidays that were added to a year

abbrev pub is_in : ℕ → ℕ → Bool
is_in year day = year_of day == year

-- a day of a year is among those that were added to the year where it was added
pub own_year : (day : ℕ) (ds : List ℕ) → is_holiday (filter (is_in (year_of day)) ds) day
    ≡ is_holiday ds day
own_year day [] = refl
own_year day (d ∷ ds) =
    let rest = own_year day ds in
    elim (cases_Bool (is_in (year_of day) d)) [
      | inl mine ↦ ap (λ xs. is_holiday xs day) (filter_in (is_in (year_of day)) d ds mine)
          ∙ ap (λ b. (d == day) || b) rest
      | inr other ↦
          ap (λ xs. is_holiday xs day) (filter_out (is_in (year_of day)) d ds other)
          ∙ (rest ∙ sym
          (ap (λ b. b || is_holiday ds day)
          (eq_not d day (λ e. true≢false (sym (eq_same (year_of d) (year_of day) (ap year_of e))
          ∙ other)))))
    ]

pub never_added : (day : ℕ) (ds : List ℕ) → ((d : ℕ) → Has ds d → d ≡ day → ⊥)
    → is_holiday ds day ≡ false
never_added day [] none = refl
never_added day (d ∷ ds) none = ap (λ b. b || is_holiday ds day) (eq_not d day (none d (inl refl)))
    ∙ never_added day ds (λ x has. none x (inr has))

-- the calendars of a sound state have days of their years
pub filed_of : (s : State) → IsSound s → AreFiled s.calendars
filed_of s sound c has day in_days =
    let fits = (sound.are_calendars c has).1 in
    let rest = (and_parts (nat_le _ 60) (list_all (λ d. year_of d == c.year) c.days
    && are_rising c.days)
    fits).1 in
    let all = (and_parts (list_all (λ d. year_of d == c.year) c.days) (are_rising c.days) rest).0 in
    eqb-true (year_of day) c.year (has_all (λ d. (year_of d == c.year) ≡ true) c.days
    (AllPass-from_list_all (λ d. year_of d == c.year) c.days all) day in_days)

-- ---- and_parts

module _ (s : State) (apart : AreDistinct year_of_calendar s.calendars)
    (filed : AreFiled s.calendars)
    (given : (day : ℕ) → Has s.added_days day → is_given s (year_of day) ≡ true) (day : ℕ) where
  by_calendar : (found : Option (List ℕ)) → calendar_at s (year_of day) ≡ found
      → is_holiday (all_days s) day
      ≡ is_holiday (days_of_year found (added_in s (year_of day))) day
  by_calendar (Some days) is =
      list_any-append (λ h. h == day) (holidays_of s.calendars) s.added_days
      ∙ ap (λ b. b || is_holiday s.added_days day)
      (in_calendar day s.calendars days apart filed is)
      ∙ ap (λ b. is_holiday days day || b) (sym (own_year day s.added_days))
      ∙ sym (list_any-append (λ h. h == day) days (added_in s (year_of day)))
  by_calendar None is =
      list_any-append (λ h. h == day) (holidays_of s.calendars) s.added_days
      ∙ ap (λ b. b || is_holiday s.added_days day)
      (none_of day s.calendars filed
      (λ c has same. found_none days_of (is_year (year_of day)) s.calendars is c has
      (eq_same c.year (year_of day) same)))
      ∙ sym (own_year day s.added_days)

  pub in_year : is_holiday (all_days s) day
      ≡ is_holiday (days_of_year (calendar_at s (year_of day)) (added_in s (year_of day))) day
  in_year = by_calendar (calendar_at s (year_of day)) refl

-- ---- days stay holidays

more_first : (a b c : Bool) → (a || b) ≡ true → ((a || c) || b) ≡ true
more_first true b c is = refl
more_first false true true is = refl
more_first false true false is = refl
more_first false false c is = absurd cc

pub more_last : (a b c : Bool) → (a || b) ≡ true → (a || (b || c)) ≡ true
more_last true b c is = refl
more_last false true c is = refl
more_last false false c is = absurd cc

pub still_given : (cs : List YearDays) (c : YearDays) (added : List ℕ) (day : ℕ)
    → is_holiday (holidays_of cs ++ added) day ≡ true
    → is_holiday (holidays_of (cs ++ c ∷ []) ++ added) day ≡ true
still_given cs c added day is =
    let p : ℕ → Bool = λ h. h == day in
    let days : holidays_of (cs ++ c ∷ []) ≡ holidays_of cs ++ c.days =
    flat_map-append (λ (g : YearDays). g.days) cs (c ∷ [])
    ∙ ap (λ ds. holidays_of cs ++ ds) (append-nil c.days) in
    list_any-append p (holidays_of (cs ++ c ∷ [])) added
    ∙ ap (λ ds. list_any p ds || is_holiday added day) days
    ∙ ap (λ b. b || is_holiday added day) (list_any-append p (holidays_of cs) c.days)
    ∙ more_first (is_holiday (holidays_of cs) day) (is_holiday added day) (is_holiday c.days day)
    (sym (list_any-append p (holidays_of cs) added) ∙ is)

pub still_added : (given added : List ℕ) (new day : ℕ) → is_holiday (given ++ added) day ≡ true
    → is_holiday (given ++ (added ++ new ∷ [])) day ≡ true
still_added given added new day is =
    let p : ℕ → Bool = λ h. h == day in
    list_any-append p given (added ++ new ∷ [])
    ∙ ap (λ b. is_holiday given day || b) (list_any-append p added (new ∷ []))
    ∙ more_last (is_holiday given day) (is_holiday added day) (is_holiday (new ∷ []) day)
    (sym (list_any-append p given added) ∙ is)

-- The years in which the days of a sound state lie, and the days by year.
use Rattle.std.proofs.Common.{◌≡◌, ◌∙◌, inl, inr, refl, sym, ap, subst, ℕ, ◌<◌, ◌≤◌}
use Rattle.std.proofs.Common.{◌==◌, Bool}
use Rattle.std.proofs.Common.{true, false, List, [], ◌∷◌, ◌++◌, Option, None, Some, arith}
use Rattle.std.specs.Prelude.{filter, find, is_some, nat_le, option_map, if◌then◌else◌}
use Rattle.std.proofs.lemmas.Bool.{and_parts, eqb-true, leb-true, true≢false}
use Rattle.std.proofs.lemmas.List.{append-nil}
use Rattle.std.proofs.lemmas.List.Concat.{flat_map-cons}
use Rattle.std.proofs.lemmas.List.Elements.{filter-append}
use Rattle.ftd_days.proofs.Months.{day_in_years, in_month, year_before, year_ends}
use Rattle.ftd_days.proofs.Years.{eq_same}
use Rattle.ftd_days.specs.Calendar.{year_of}
use Rattle.ftd_days.specs.Holidays.{YearDays, holidays_of}
use Rattle.ftd_rules.specs.Lists.{Has, KeysRise, KeysDoNotFall}
use Rattle.ftd_rules.proofs.Owed.{has_append}
use Rattle.ftd_machine.specs.Limits.{can_have_calendar}
use Rattle.ftd_machine.specs.Sound.{AreDistinct, IsSound, year_of_calendar}
use Rattle.ftd_machine.specs.State.{State, all_days, calendar_at, days_of, is_given}
use Rattle.ftd_machine.proofs.Found.{filter_all, filter_none, find_none}
use Rattle.ftd_machine.proofs.InYear.{AreFiled, filed_of}
use Rattle.ftd_machine.proofs.Keeping.{is_year}
use Rattle.ftd_machine.proofs.Members.{found_some, some_of}
use Rattle.ftd_journal.specs.Days.{as_itself, is_day_of}

-- ---- where the days lie

abbrev pub IsFrom : ℕ → Type 0
IsFrom year = (2001 ≤ year) × (year ≤ 2099)

in_years : (year : ℕ) → can_have_calendar year ≡ true → IsFrom year
in_years year e = (
  leb-true 2001 year (and_parts (nat_le 2001 year) (nat_le year 2099) e).0,
  leb-true year 2099 (and_parts (nat_le 2001 year) (nat_le year 2099) e).1,
)

pub calendar_in : (s : State) → IsSound s → (c : YearDays) → Has s.calendars c → IsFrom c.year
calendar_in s sound c has = in_years c.year (sound.are_calendars c has).0

pub given_in : (s : State) → IsSound s → (year : ℕ) → is_given s year ≡ true → IsFrom year
given_in s sound year given =
    let days = some_of (calendar_at s year) given in
    let c = found_some days_of (is_year year) s.calendars days.0 days.1 in
    subst IsFrom (eqb-true c.0.year year c.2) (calendar_in s sound c.0 c.1)

of_calendar : (cs : List YearDays) (day : ℕ) → Has (holidays_of cs) day
    → (c : YearDays) × Has cs c × Has c.days day
of_calendar [] day has = absurd has
of_calendar (c ∷ cs) day has = elim (has_append c.days (holidays_of cs) day has) [
  | inl here ↦ (c, inl refl, here)
  | inr there ↦ let rest = of_calendar cs day there in (rest.0, inr rest.1, rest.2)
]

pub added_in : (s : State) → IsSound s → (day : ℕ) → Has s.added_days day → IsFrom (year_of day)
added_in s sound day has = given_in s sound (year_of day) (sound.added_days day has)

pub day_in : (s : State) → IsSound s → (day : ℕ) → Has (all_days s) day → IsFrom (year_of day)
day_in s sound day has = elim (has_append (holidays_of s.calendars) s.added_days day has) [
  | inl here ↦
      (let c = of_calendar s.calendars day here in
      subst IsFrom (sym (filed_of s sound c.0 c.1 day c.2)) (calendar_in s sound c.0 c.1))
  | inr there ↦ added_in s sound day there
]

-- ---- by year

year_mono : (a b : ℕ) → a < b → IsFrom (year_of b) → year_of a ≤ year_of b
year_mono a b less from =
    let to = from.1 in
    let within = day_in_years b (omega arith) in
    let month = (in_month b within).1 in
    let end = year_ends b within in
    year_before (year_of b) a (omega arith) (omega arith)

-- days that rise do not fall by year
pub years_do_not_fall : (days : List ℕ) → ((day : ℕ) → Has days day → IsFrom (year_of day))
    → KeysRise as_itself days → KeysDoNotFall year_of days
years_do_not_fall [] from rise = tt
years_do_not_fall (day ∷ days) from rise = (
  (λ later has. year_mono day later (rise.0 later has) (from later (inr has))),
  years_do_not_fall days (λ d has. from d (inr has)) rise.1,
)

-- ---- the days of a year

abbrev pub given_or_none : Option (List ℕ) → List ℕ
given_or_none None = []
given_or_none (Some days) = days

-- of all days of calendars those of a year are the days of its calendar
pub in_calendars : (year : ℕ) (cs : List YearDays) → AreDistinct year_of_calendar cs → AreFiled cs
    → filter (is_day_of year) (holidays_of cs)
    ≡ given_or_none (option_map days_of (find (is_year year) cs))
in_calendars year [] apart filed = refl
in_calendars year (c ∷ cs) apart filed =
    ap (filter (is_day_of year)) (flat_map-cons (λ (g : YearDays). g.days) c cs)
    ∙ filter-append (is_day_of year) c.days (holidays_of cs)
    ∙ step (c.year == year) refl (in_calendars year cs apart.1 (λ g has. filed g (inr has)))
  where
    step : (b : Bool) → (c.year == year) ≡ b
        → filter (is_day_of year) (holidays_of cs)
        ≡ given_or_none (option_map days_of (find (is_year year) cs))
        → filter (is_day_of year) c.days ++ filter (is_day_of year) (holidays_of cs)
        ≡ given_or_none (option_map days_of (if b then Some c else find (is_year year) cs))
    step true e more =
        let its : c.year ≡ year = eqb-true c.year year e in
        let own : filter (is_day_of year) c.days ≡ c.days = filter_all (is_day_of year) c.days
        (λ d has. eq_same (year_of d) year (filed c (inl refl) d has ∙ its)) in
        let none : find (is_year year) cs ≡ None = find_none (is_year year) cs
        (λ g has is. apart.0 g has (eqb-true g.year year is ∙ sym its)) in
        ap (λ ds. ds ++ filter (is_day_of year) (holidays_of cs)) own
        ∙ ap (λ ds. c.days ++ ds) (more ∙ ap (λ o. given_or_none (option_map days_of o)) none)
        ∙ append-nil c.days
    step false e more =
        let none : filter (is_day_of year) c.days ≡ [] = filter_none (is_day_of year) c.days
        (λ d has is. true≢false (sym (eq_same c.year year
        (sym (filed c (inl refl) d has) ∙ eqb-true (year_of d) year is)) ∙ e)) in
        ap (λ ds. ds ++ filter (is_day_of year) (holidays_of cs)) none ∙ more

-- so of all days that were given or added
pub in_year : (s : State) → IsSound s → (year : ℕ)
    → filter (is_day_of year) (all_days s)
    ≡ given_or_none (calendar_at s year) ++ filter (is_day_of year) s.added_days
in_year s sound year =
    filter-append (is_day_of year) (holidays_of s.calendars) s.added_days
    ∙ ap (λ ds. ds ++ filter (is_day_of year) s.added_days)
    (in_calendars year s.calendars sound.calendars (filed_of s sound))

-- none of a year whose calendar is not given
pub none_in : (s : State) → IsSound s → (year : ℕ) → calendar_at s year ≡ None
    → filter (is_day_of year) (all_days s) ≡ []
none_in s sound year none =
    in_year s sound year
    ∙ ap (λ o. given_or_none o ++ filter (is_day_of year) s.added_days) none
    ∙ filter_none (is_day_of year) s.added_days
    (λ d has is. true≢false (sym (sound.added_days d has)
    ∙ ap (λ y. is_given s y) (eqb-true (year_of d) year is) ∙ ap is_some none))

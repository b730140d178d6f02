-- A holiday that is added: what is answered, and the tables stand for the machine's next state.
use Rattle.std.proofs.Common.{◌≡◌, ℕ, ◌+◌, Bool, true, false, List, [], ◌∷◌, ◌++◌, map, length}
use Rattle.std.proofs.Common.{Option, None, Some, Vec, Ok, refl, sym, ap, subst, ◌∙◌}
use Rattle.std.specs.Prelude.{filter, option_map, nat_lt, ◌||◌, ◌&&◌, ◌==◌, if◌then◌else◌}
use Rattle.std.proofs.lemmas.Bool.{true≢false, eqb-true}
use Rattle.std.proofs.Common.{inl, inr}
use Rattle.std.proofs.lemmas.List.{map-append, length-append}
use Rattle.std.proofs.lemmas.List.Folds.{list_any-append}
use Rattle.ftd_days.specs.declared.limits.TheConstants.{MOST_HOLIDAYS}
use Rattle.ftd_days.specs.Calendar.{year_of}
use Rattle.ftd_days.specs.Business.{is_holiday}
use Rattle.ftd_days.specs.Holidays.{holidays_of, IsWithHoliday}
use Rattle.ftd_days.proofs.Among.{is_among}
use Rattle.ftd_rules.specs.Lists.{Has}
use Rattle.ftd_sql.specs.Standing.{Tables}
use Rattle.ftd_store.specs.Rows.{holiday_row}
use Rattle.ftd_store.specs.Changes.{with_added_holiday}
use Rattle.ftd_store.specs.Finds.{FindsCalendar, ListsAdded}
use Rattle.ftd_machine.specs.declared.requests.Request.{Request}
use Rattle.ftd_machine.specs.declared.requests.Request.TheVariants.{Enter}
use Rattle.ftd_machine.specs.declared.requests.Entry.TheVariants as entry
use Rattle.ftd_machine.specs.declared.replies.Reply.TheVariants.{Done}
use Rattle.ftd_machine.specs.declared.replies.Refusal.TheVariants.{BadDay, BadCalendar}
use Rattle.ftd_machine.specs.declared.replies.Refusal.TheVariants.{CalendarMissing}
use Rattle.ftd_machine.specs.Limits.{is_between}
use Rattle.ftd_machine.specs.State.{State, calendar_at, added_in, holidays, all_days, DayChange}
use Rattle.ftd_machine.specs.State.{changes_of, says_holiday, is_on_day, is_in_force, latest}
use Rattle.ftd_machine.specs.Checks.{Answer, first_of, needs, done_if, finds, Decides}
use Rattle.ftd_machine.specs.Requests.{add_holiday_checks, days_of_year}
use Rattle.ftd_machine.specs.Step.{Step}
use Rattle.ftd_machine.specs.Sound.{IsSound}
use Rattle.ftd_machine.proofs.Heads.{Gives, gives_done, skip_needs}
use Rattle.ftd_machine.proofs.InYear.{filed_of, in_year}
use Rattle.ftd_machine.proofs.Soundness.{step_sound}
use Rattle.ftd_entries.specs.Standing.{StandsFor, KeepsDays, added_entry}
use Rattle.ftd_entries.proofs.CalendarRows.{days_found, calendar_known}
use Rattle.ftd_entries.proofs.YearHolidays.{added_known, added_counted}
use Rattle.ftd_posting.specs.Moved.{EntersDay}
use Rattle.ftd_posting.specs.declared.moving.DayEntry.TheVariants.{Added}
use Rattle.ftd_posting.proofs.DayTurned.{entered_stands}

-- ---- the checks

-- of the days of the year they ask whether the day is one, and how many there are
abbrev checks_by : ℕ → Option (List ℕ) → Bool → ℕ → Option Answer
checks_by day calendar there count =
    first_of (needs (is_between 2001 2099 (year_of day)) BadDay ∷ done_if there ∷ finds calendar
    (CalendarMissing (year_of day)) ∷ needs (nat_lt count MOST_HOLIDAYS) BadCalendar ∷ [])

same_checks : (day : ℕ) (calendar : Option (List ℕ)) (some others : List ℕ)
    → is_holiday some day ≡ is_holiday others day → length some ≡ length others
    → first_of (add_holiday_checks day calendar some) ≡ first_of
    (add_holiday_checks day calendar others)
same_checks day None some others there count =
    ap (λ b. checks_by day None b (length some)) there
    ∙ ap (checks_by day None (is_holiday others day)) count
same_checks day (Some given) some others there count =
    let p : ℕ → Bool = λ h. h == day in
    let one : is_holiday (given ++ some) day ≡ is_holiday (given ++ others) day =
    list_any-append p given some ∙ (ap (λ b. is_holiday given day || b) there
    ∙ sym (list_any-append p given others)) in
    let many : length (given ++ some) ≡ length (given ++ others) = length-append given some
    ∙ (ap (λ n. length given + n) count ∙ sym (length-append given others)) in
    ap (λ b. checks_by day (Some given) b (length (given ++ some))) one
    ∙ ap (checks_by day (Some given) (is_holiday (given ++ others) day)) many

-- ---- the holidays with the day

abbrev Next : ℕ → State → State
Next day s = record s { added_days = s.added_days ++ day ∷ [] }

no_change_of : (day : ℕ) (all : List ℕ) (changes : List DayChange)
    → ((c : DayChange) → Has changes c → is_holiday all c.day ≡ true)
    → is_holiday all day ≡ false → changes_of day changes ≡ []
no_change_of day all [] known new = refl
no_change_of day all (c ∷ cs) known new =
    step (c.day == day) refl (no_change_of day all cs (λ x has. known x (inr has)) new)
  where
    step : (same : Bool) → (c.day == day) ≡ same → changes_of day cs ≡ []
        → map says_holiday (if same then c ∷ filter (is_on_day day) cs else filter (is_on_day day)
        cs)
        ≡ []
    step true e more =
        absurd (true≢false (sym (known c (inl refl)) ∙ ap (is_holiday all) (eqb-true c.day day e)
        ∙ new))
    step false e more = more

-- a day that is no holiday yet was never changed
in_force_if_new : (day : ℕ) (s : State) → IsSound s → is_holiday (all_days s) day ≡ false
    → is_in_force s.changed_days day ≡ true
in_force_if_new day s sound new =
    ap (latest true) (no_change_of day (all_days s) s.changed_days sound.changed new)

with_the_day : (day : ℕ) (s : State) → is_in_force s.changed_days day ≡ true
    → IsWithHoliday (holidays s) day (holidays (Next day s))
with_the_day day s forced d =
    let p : ℕ → Bool = λ h. h == d in
    let force = is_in_force s.changed_days in
    let given = is_holiday (holidays_of s.calendars) d in
    let added = is_holiday s.added_days d in
    is_among force (all_days (Next day s)) d
    ∙ ap (λ b. b && force d) (list_any-append p (holidays_of s.calendars) (s.added_days ++ day ∷ [])
    ∙ ap (λ b. given || b) (list_any-append p s.added_days (day ∷ [])))
    ∙ step given added (day == d) refl
    ∙ ap (λ b. b || (day == d)) (sym (is_among force (all_days s) d
    ∙ ap (λ b. b && force d) (list_any-append p (holidays_of s.calendars) s.added_days)))
  where
    apart : (a b f : Bool) → ((a || (b || (false || false))) && f) ≡ (((a || b) && f) || false)
    apart true b true = refl
    apart true b false = refl
    apart false true true = refl
    apart false true false = refl
    apart false false f = refl

    here : (a b : Bool) → ((a || (b || (true || false))) && true) ≡ (((a || b) && true) || true)
    here true b = refl
    here false true = refl
    here false false = refl

    step : (a b same : Bool) → (day == d) ≡ same
        → ((a || (b || (same || false))) && is_in_force s.changed_days d)
        ≡ (((a || b) && is_in_force s.changed_days d) || same)
    step a b false e = apart a b (is_in_force s.changed_days d)
    step a b true e =
        let its : is_in_force s.changed_days d ≡ true =
        ap (is_in_force s.changed_days) (sym (eqb-true day d e)) ∙ forced in
        rw its (here a b)

-- ---- the request

-- the rows of the days with the day
keeps_added : (day : ℕ) (t : Tables) (s : State) → StandsFor t s
    → KeepsDays (with_added_holiday day t) (Next day s)
keeps_added day t s stands = record {
  calendars = stands.entries.days.calendars;
  calendar_days = stands.entries.days.calendar_days;
  added_days = ap (λ rows. rows ++ holiday_row (year_of day) day ∷ [])
      stands.entries.days.added_days
      ∙ sym (map-append added_entry s.added_days (day ∷ []));
  changed_days = stands.entries.days.changed_days;
}

module _ {A B : Type 0} (day year : ℕ) (its : year ≡ year_of day) (found : Option (Vec ℕ A))
    (added : Vec ℕ B) where
  abbrev pub checks : Option Answer
  checks = first_of (add_holiday_checks day (option_map days_found found) added.items)

  -- the checks of what the state keeps
  checks_known : (t : Tables) (s : State) → StandsFor t s → IsSound s → FindsCalendar year found t
      → ListsAdded year added t
      → first_of (add_holiday_checks day (calendar_at s (year_of day)) (added_in s (year_of day)))
      ≡ checks
  checks_known t s stands sound finds lists =
      let calendar : calendar_at s (year_of day) ≡ option_map days_found found =
      ap (calendar_at s) (sym its) ∙ calendar_known year found t s stands sound finds in
      ap (λ c. first_of (add_holiday_checks day c (added_in s (year_of day)))) calendar
      ∙ (ap (λ y. first_of (add_holiday_checks day (option_map days_found found) (added_in s y)))
      (sym its)
      ∙ same_checks day (option_map days_found found) (added_in s year) added.items
      (sym (added_known year added t s stands.entries.days lists day))
      (sym (added_counted year added t s stands.entries.days lists)))

  -- a check decides
  pub added_decided : (answer : Answer) → checks ≡ Some answer → (t : Tables) (s : State)
      → StandsFor t s → IsSound s → FindsCalendar year found t → ListsAdded year added t
      → Step s (Enter (entry.Holiday day)) answer s
  added_decided answer decided t s stands sound finds lists =
      subst (λ o. Decides o s answer s ((answer ≡ Ok Done) × (s ≡ Next day s)))
      (sym (checks_known t s stands sound finds lists ∙ decided)) (refl, refl)

  -- all checks pass
  pub added_done : checks ≡ None → (t u : Tables) (s : State) → StandsFor t s → IsSound s
      → FindsCalendar year found t × ListsAdded year added t → EntersDay (Added day) t u
      → (next : State) × Step s (Enter (entry.Holiday day)) (Ok Done) next × StandsFor u next
  added_done passed t u s stands sound knows enters =
      let answer : Answer = Ok Done in
      let request : Request = Enter (entry.Holiday day) in
      let next : State = Next day s in
      let step : Step s request answer next =
      subst (λ o. Decides o s answer next ((answer ≡ Ok Done) × (next ≡ next)))
      (sym (checks_known t s stands sound knows.0 knows.1 ∙ passed)) (refl, refl) in
      let next_sound = step_sound s request answer next step sound in
      let not_yet : Gives (add_holiday_checks day (calendar_at s (year_of day))
      (added_in s (year_of day))) (is_holiday (days_of_year (calendar_at s (year_of day))
      (added_in s (year_of day))) day ≡ false) = skip_needs _ _ _ _ (gives_done _ _) in
      let new : is_holiday (all_days s) day ≡ false =
      in_year s sound.calendars (filed_of s sound) sound.added_days day
      ∙ not_yet.fact (checks_known t s stands sound knows.0 knows.1 ∙ passed) in
      let forced = in_force_if_new day s sound new in (
        next,
        step,
        entered_stands (Added day) t u s (s.added_days ++ day ∷ []) s.changed_days stands sound
            enters next_sound (keeps_added day t s stands) (inl (with_the_day day s forced)),
      )

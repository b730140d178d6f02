-- A day that is taken back as a holiday, or made one again: what is answered, and the tables stand
-- for the machine's next state.
use Rattle.std.proofs.Common.{◌≡◌, ◌∙◌, ℕ, ◌+◌, Bool, true, false, List, [], ◌∷◌, ◌++◌, map, length}
use Rattle.std.proofs.Common.{Option, None, Some, Ok, refl, sym, ap, inl, inr}
use Rattle.std.specs.Prelude.{filter, option_map, ◌||◌, ◌&&◌, ◌==◌, if◌then◌else◌}
use Rattle.std.proofs.lemmas.Bool.{cases_Bool, eqb-true}
use Rattle.std.proofs.lemmas.List.{map-append}
use Rattle.std.proofs.lemmas.List.Folds.{list_any-append}
use Rattle.std.proofs.lemmas.List.Elements.{filter-append}
use Rattle.ftd_days.specs.Calendar.{year_of}
use Rattle.ftd_days.specs.Business.{is_holiday}
use Rattle.ftd_days.proofs.Among.{is_among}
use Rattle.ftd_sql.specs.Standing.{Tables}
use Rattle.ftd_store.specs.Rows.{holiday_change_row}
use Rattle.ftd_store.specs.declared.correction_cells.HolidayChange.{HolidayChange}
use Rattle.ftd_store.specs.Changes.{with_holiday_change}
use Rattle.ftd_machine.specs.declared.requests.Request.{Request}
use Rattle.ftd_machine.specs.declared.requests.Request.TheVariants.{Correct}
use Rattle.ftd_machine.specs.declared.requests.Correction.TheVariants as correction
use Rattle.ftd_machine.specs.declared.replies.Reply.TheVariants.{Done}
use Rattle.ftd_machine.specs.State.{State, DayChange, calendar_at, added_in, holidays, all_days}
use Rattle.ftd_machine.specs.State.{changes_of, says_holiday, is_on_day, is_in_force, latest}
use Rattle.ftd_machine.specs.State.{numbered}
use Rattle.ftd_machine.specs.Checks.{Answer, first_of}
use Rattle.ftd_machine.specs.Requests.{change_holiday_checks, days_of_year}
use Rattle.ftd_machine.specs.Step.{Step}
use Rattle.ftd_machine.specs.Sound.{IsSound}
use Rattle.ftd_machine.proofs.Deciding.{decided, passed}
use Rattle.ftd_machine.proofs.Heads.{Gives, gives_needs, skip_needs, skip_finds, skip_new}
use Rattle.ftd_machine.proofs.InYear.{filed_of, in_year}
use Rattle.ftd_machine.proofs.Soundness.{step_sound}
use Rattle.ftd_entries.specs.Standing.{StandsFor, KeepsDays, change_entry}
use Rattle.ftd_entries.proofs.CalendarRows.{days_found, calendar_known}
use Rattle.ftd_entries.proofs.Entered.{corrected_more}
use Rattle.ftd_entries.proofs.YearHolidays.{added_known}
use Rattle.ftd_posting.specs.Changing.{KnowsForChange}
use Rattle.ftd_posting.specs.Moved.{EntersDay}
use Rattle.ftd_posting.specs.declared.changing.KnownForChange.{KnownForChange}
use Rattle.ftd_posting.specs.declared.moving.DayEntry.TheVariants.{Changed}
use Rattle.ftd_posting.proofs.DayTurned.{entered_stands}
use Rattle.ftd_posting.proofs.DueAgain.{Turns}

-- ---- what is in force then

last_of : {X : Type 0} (first x : X) (xs : List X) → latest first (xs ++ x ∷ []) ≡ x
last_of first x [] = refl
last_of first x (y ∷ ys) = last_of y x ys

module _ (day : ℕ) (word : Bool) (changes : List DayChange) where
  abbrev change : DayChange
  change = record { day = day; is_holiday = word }

  -- the day is in force as the change says, and every other one as before
  in_force_then : (other : ℕ) → is_in_force (changes ++ change ∷ []) other
      ≡ (if day == other then word else is_in_force changes other)
  in_force_then other =
      ap (λ cs. latest true (map says_holiday cs))
      (filter-append (is_on_day other) changes (change ∷ []))
      ∙ ap (latest true) (map-append says_holiday (filter (is_on_day other) changes)
      (filter (is_on_day other) (change ∷ [])))
      ∙ step (day == other)
    where
      step : (same : Bool) → latest true (changes_of other changes ++ map says_holiday
          (if same then change ∷ [] else []))
          ≡ (if same then word else is_in_force changes other)
      step true = last_of true word (changes_of other changes)
      step false = ap (latest true) (nothing_more (changes_of other changes))
        where
          nothing_more : (words : List Bool) → words ++ [] ≡ words
          nothing_more [] = refl
          nothing_more (w ∷ words) = ap (λ ws. w ∷ ws) (nothing_more words)

-- ---- the holidays then

abbrev Next : ℕ → Bool → State → State
Next day word s = record s {
  changed_days = s.changed_days ++ record { day = day; is_holiday = word } ∷ [];
}

module _ (day : ℕ) (s : State) (among : is_holiday (all_days s) day ≡ true) where
  abbrev given : ℕ → Bool
  given other = is_holiday (all_days s) other

  abbrev force : ℕ → Bool
  force other = is_in_force s.changed_days other

  now_is : (word : Bool) (other : ℕ) → is_holiday (holidays (Next day word s)) other
      ≡ (given other && (if day == other then word else force other))
  now_is word other =
      is_among (is_in_force (Next day word s).changed_days) (all_days s) other
      ∙ ap (λ b. given other && b) (in_force_then day word s.changed_days other)

  was_is : (other : ℕ) → is_holiday (holidays s) other ≡ (given other && force other)
  was_is other = is_among (is_in_force s.changed_days) (all_days s) other

  or_none : (b : Bool) → (b || false) ≡ b
  or_none true = refl
  or_none false = refl

  or_all : (b : Bool) → (b || true) ≡ true
  or_all true = refl
  or_all false = refl

  -- the day itself
  there : (other : ℕ) → (day == other) ≡ true → given other ≡ true
  there other e = ap given (sym (eqb-true day other e)) ∙ among

  forced : (other : ℕ) (b : Bool) → (day == other) ≡ true → force day ≡ b → force other ≡ b
  forced other b e is = ap force (sym (eqb-true day other e)) ∙ is

  turned : (word : Bool) → Turns (holidays s) day (holidays (Next day word s))
  turned true = inl (λ other. now_is true other ∙ step other (day == other) refl
      ∙ ap (λ b. b || (day == other)) (sym (was_is other)))
    where
      step : (other : ℕ) (same : Bool) → (day == other) ≡ same
          → (given other && (if same then true else force other))
          ≡ ((given other && force other) || same)
      step other true e = rw (there other e) (sym (or_all (force other)))
      step other false e = sym (or_none (given other && force other))
  turned false =
      elim (cases_Bool (force day)) [
        | inl on ↦ inr (inl (λ other. was_is other ∙ taken other on (day == other) refl
            ∙ ap (λ b. b || (day == other)) (sym (now_is false other))))
        | inr off ↦ inr (inr (λ other. now_is false other ∙ same_as other off (day == other) refl
            ∙ sym (was_is other)))
      ]
    where
      taken : (other : ℕ) → force day ≡ true → (same : Bool) → (day == other) ≡ same
          → (given other && force other)
          ≡ ((given other && (if same then false else force other)) || same)
      taken other on true e =
          rw (there other e, forced other true e on) refl
      taken other on false e = sym (or_none (given other && force other))

      same_as : (other : ℕ) → force day ≡ false → (same : Bool) → (day == other) ≡ same
          → (given other && (if same then false else force other)) ≡ (given other && force other)
      same_as other off true e = rw (forced other false e off) refl
      same_as other off false e = refl

-- ---- the request

module _ (day number : ℕ) (word : Bool) where
  abbrev Asked : Request
  Asked = Correct number (correction.Holiday day word)

  abbrev pub checks : KnownForChange → Option Answer
  checks known =
      first_of (change_holiday_checks day number word (option_map days_found known.calendar)
      known.added.items (numbered number known.words.items) known.count)

  -- the days of the year they ask only whether the day is one
  same_checks : (calendar : Option (List ℕ)) (some others : List ℕ) (known : Option Bool)
      (count : ℕ) → is_holiday some day ≡ is_holiday others day
      → first_of (change_holiday_checks day number word calendar some known count)
      ≡ first_of (change_holiday_checks day number word calendar others known count)
  same_checks None some others known count there = rw there refl
  same_checks (Some given) some others known count there =
      let p : ℕ → Bool = λ h. h == day in
      let one : is_holiday (given ++ some) day ≡ is_holiday (given ++ others) day =
      list_any-append p given some ∙ (ap (λ b. is_holiday given day || b) there
      ∙ sym (list_any-append p given others)) in
      rw one refl

  -- the checks of what the state keeps
  checks_are : (known : KnownForChange) (t : Tables) (s : State) → StandsFor t s → IsSound s
      → KnowsForChange day known t
      → first_of (change_holiday_checks day number word (calendar_at s (year_of day))
      (added_in s (year_of day)) (numbered number (changes_of day s.changed_days))
      (length (changes_of day s.changed_days))) ≡ checks known
  checks_are known t s stands sound knows =
      let calendar = calendar_known (year_of day) known.calendar t s stands sound knows.calendar in
      let words = knows.words s stands in
      let count : length (changes_of day s.changed_days) ≡ known.count =
      ap length (sym words) ∙ sym knows.count in
      ap (λ c. first_of (change_holiday_checks day number word c (added_in s (year_of day))
      (numbered number (changes_of day s.changed_days)) (length (changes_of day s.changed_days))))
      calendar
      ∙ ap (λ n. first_of (change_holiday_checks day number word
      (option_map days_found known.calendar) (added_in s (year_of day))
      (numbered number (changes_of day s.changed_days)) n)) count
      ∙ ap (λ ws. first_of (change_holiday_checks day number word
      (option_map days_found known.calendar) (added_in s (year_of day)) (numbered number ws)
      known.count)) (sym words)
      ∙ same_checks (option_map days_found known.calendar) (added_in s (year_of day))
      known.added.items (numbered number known.words.items) known.count
      (sym (added_known (year_of day) known.added t s stands.entries.days knows.added day))

  -- a check decides
  pub changed_decided : (known : KnownForChange) (answer : Answer) → checks known ≡ Some answer
      → (t : Tables) (s : State) → StandsFor t s → IsSound s → KnowsForChange day known t
      → Step s Asked answer s
  changed_decided known answer is t s stands sound knows =
      decided _ s answer _ (checks_are known t s stands sound knows ∙ is)

  -- where all pass the day was given or added, and the number is the next one
  change_facts : (calendar : Option (List ℕ)) (added : List ℕ) (known : Option Bool) (count : ℕ)
      → first_of (change_holiday_checks day number word calendar added known count) ≡ None
      → (is_holiday (days_of_year calendar added) day ≡ true) × (number ≡ count + 1)
  change_facts calendar added known count is =
      let P = change_holiday_checks day number word calendar added known count in
      let among : Gives P (is_holiday (days_of_year calendar added) day ≡ true) =
      skip_needs _ _ _ _ (skip_needs _ _ _ _ (skip_finds _ _ _ _ (gives_needs _ _ _))) in
      let next : Gives P ((number == count + 1) ≡ true) =
      skip_needs _ _ _ _ (skip_needs _ _ _ _ (skip_finds _ _ _ _
      (skip_needs _ _ _ _ (skip_new _ _ _ _ _ (gives_needs _ _ _))))) in
      (among.fact is, eqb-true number (count + 1) (next.fact is))

  abbrev Change : HolidayChange
  Change = record { day = day; number = number; is_holiday = word }

  -- the rows of the days with the change
  keeps_changed : (t : Tables) (s : State) → StandsFor t s
      → number ≡ length (changes_of day s.changed_days) + 1
      → KeepsDays (with_holiday_change Change t) (Next day word s)
  keeps_changed t s stands is =
      let new_one : DayChange = record { day = day; is_holiday = word } in
      let row : change_entry (s.changed_days, new_one) ≡ holiday_change_row (year_of day) Change =
      ap (λ n. holiday_change_row (year_of day)
      (record { day = day; number = n; is_holiday = word })) (sym is) in
      record {
        calendars = stands.entries.days.calendars;
        calendar_days = stands.entries.days.calendar_days;
        added_days = stands.entries.days.added_days;
        changed_days = corrected_more change_entry s.changed_days new_one
            (holiday_change_row (year_of day) Change) row stands.entries.days.changed_days;
      }

  -- all checks pass
  pub changed_done : (known : KnownForChange) → checks known ≡ None → (t u : Tables) (s : State)
      → StandsFor t s → IsSound s → KnowsForChange day known t → EntersDay (Changed Change) t u
      → (next : State) × Step s Asked (Ok Done) next × StandsFor u next
  changed_done known is t u s stands sound knows enters =
      let next : State = Next day word s in
      let pass = checks_are known t s stands sound knows ∙ is in
      let step : Step s Asked (Ok Done) next = passed _ s (Ok Done) next _ pass (refl, refl) in
      let next_sound = step_sound s Asked (Ok Done) next step sound in
      let facts = change_facts (calendar_at s (year_of day)) (added_in s (year_of day))
      (numbered number (changes_of day s.changed_days)) (length (changes_of day s.changed_days))
      pass in
      let among : is_holiday (all_days s) day ≡ true =
      in_year s sound.calendars (filed_of s sound) sound.added_days day ∙ facts.0 in (
        next,
        step,
        entered_stands (Changed Change) t u s s.added_days
            (s.changed_days ++ record { day = day; is_holiday = word } ∷ []) stands sound enters
            next_sound (keeps_changed t s stands facts.1) (turned day s among word),
      )

-- A calendar that is given: what is answered, and the tables stand for the machine's next state.
use Rattle.std.proofs.Common.{◌≡◌, ◌≢◌, ℕ, ◌+◌, ◌==◌, Bool, true, false, List, [], ◌∷◌, ◌++◌, map}
use Rattle.std.proofs.Common.{Option, None, Some, Ok, inl, inr, refl, sym, ap, subst, ◌∙◌}
use Rattle.std.specs.Prelude.{filter, flat_map, is_some, nat_le, ◌||◌, ◌&&◌}
use Rattle.std.specs.List.{All, list_all}
use Rattle.std.proofs.lemmas.Bool.{true≢false, eqb-true, and_parts}
use Rattle.std.proofs.lemmas.List.{append-nil}
use Rattle.std.proofs.lemmas.List.Folds.{list_any-append}
use Rattle.std.proofs.lemmas.Grind.{flat_map-append}
use Rattle.ftd_days.specs.Calendar.{year_of}
use Rattle.ftd_days.specs.Business.{is_holiday}
use Rattle.ftd_days.specs.Holidays.{YearDays, holidays_of, AreFew}
use Rattle.ftd_days.proofs.Among.{is_among}
use Rattle.ftd_rules.specs.declared.YearLine.{YearLine}
use Rattle.ftd_rules.specs.declared.Obligation.{Obligation}
use Rattle.ftd_rules.specs.Lists.{Has}
use Rattle.ftd_rules.specs.Obligations.{AreObligations}
use Rattle.ftd_rules.proofs.Rising.{all_has, has_all}
use Rattle.ftd_rules.proofs.Resting.{obligations_later, obligations_same}
use Rattle.ftd_rules.proofs.Stated.{rows_owed, rows_stated}
use Rattle.ftd_rules.proofs.Members.{has_mapped, mapped_has}
use Rattle.ftd_sql.specs.Standing.{Tables}
use Rattle.ftd_store.specs.Rows.{holiday_row}
use Rattle.ftd_store.specs.Changes.{with_calendar}
use Rattle.ftd_machine.proofs.Few.{few_in_force}
use Rattle.ftd_machine.specs.declared.requests.Request.{Request}
use Rattle.ftd_machine.specs.declared.requests.Request.TheVariants.{Enter}
use Rattle.ftd_machine.specs.declared.requests.Entry.TheVariants as entry
use Rattle.ftd_machine.specs.declared.replies.Reply.TheVariants.{Done}
use Rattle.ftd_machine.specs.Limits.{is_calendar, are_rising}
use Rattle.ftd_machine.specs.State.{State, entries_of, is_of, is_given, calendar_at, holidays}
use Rattle.ftd_machine.specs.State.{all_days, is_in_force}
use Rattle.ftd_machine.specs.History.{form_of, live_sums, year_of_line, year_of_entry, AreLinesOf}
use Rattle.ftd_machine.specs.Checks.{Answer, first_of}
use Rattle.ftd_machine.proofs.Deciding.{decided, passed}
use Rattle.ftd_machine.specs.Requests.{calendar_checks}
use Rattle.ftd_machine.specs.Step.{Step}
use Rattle.ftd_machine.specs.Sound.{IsSound}
use Rattle.ftd_machine.proofs.Heads.{Gives, gives_needs, gives_new, skip_needs}
use Rattle.ftd_machine.proofs.Members.{has_filtered}
use Rattle.ftd_entries.specs.Standing.{StandsFor, IsSettled, calendar_entry, holiday_entries}
use Rattle.ftd_entries.proofs.Entered.{entered, row_more}

-- each line is of an open year of the account
pub line_opened : (s : State) (name : List ℕ) (lines : List YearLine) → IsSound s
    → AreLinesOf (entries_of s name) lines → (line : YearLine) → Has lines line
    → (is_given s line.year ≡ true) × (is_given s (line.year + 1) ≡ true)
line_opened s name lines sound are line has =
    let year : Has (map year_of_entry (filter (is_of name) s.open_years)) line.year =
    subst (λ years. Has years line.year) are.years (mapped_has year_of_line lines line has) in
    let from = has_mapped year_of_entry (filter (is_of name) s.open_years) line.year year in
    let its = has_filtered (is_of name) s.open_years from.0 from.1 in
    let known = sound.opened from.0 its.0 in
    (ap (is_given s) from.2 ∙ known.1, ap (λ y. is_given s (y + 1)) from.2 ∙ known.2)

passes : (test : ℕ → Bool) (xs : List ℕ) → list_all test xs ≡ true → (x : ℕ) → Has xs x
    → test x ≡ true
passes test [] e x has = absurd has
passes test (z ∷ xs) e x (inl is) = ap test is ∙ (and_parts (test z) (list_all test xs) e).0
passes test (z ∷ xs) e x (inr has) = passes test xs (and_parts (test z) (list_all test xs) e).1 x
    has

-- the days of a calendar are days of its year
days_of_its_year : (year : ℕ) (days : List ℕ) → is_calendar year days ≡ true
    → All (λ day. year_of day ≡ year) days
days_of_its_year year days fits =
    let rest = (and_parts (nat_le _ 60) (list_all (λ day. year_of day == year) days
    && are_rising days)
    fits).1 in
    let all = (and_parts (list_all (λ day. year_of day == year) days) (are_rising days) rest).0 in
    all_has (λ day. year_of day ≡ year) days
    (λ day has. eqb-true (year_of day) year (passes (λ d. year_of d == year) days all day has))

of_either : (a b c d : Bool) → (((a || b) || c) && d) ≡ (((a || c) && d) || (b && d))
of_either true b c true = refl
of_either false true true true = refl
of_either false true false true = refl
of_either false false true true = refl
of_either false false false true = refl
of_either a b c false = rw (none ((a || b) || c), none (a || c), none b) refl
  where
    none : (b : Bool) → (b && false) ≡ false
    none true = refl
    none false = refl

module _ (year : ℕ) (days : List ℕ) where
  abbrev Asked : Request
  Asked = Enter (entry.Calendar year days)

  abbrev Given : YearDays
  Given = record { year = year; days = days }

  abbrev Next : State → State
  Next s = record s { calendars = s.calendars ++ Given ∷ [] }

  -- the holidays in force, as one calendar, and those of the new one
  abbrev Together : State → List YearDays
  Together s = record { year = 0; days = holidays s } ∷ []

  abbrev Further : State → YearDays
  Further s = record { year = year; days = filter (is_in_force s.changed_days) days }

  together_are : (s : State) → holidays_of (Together s) ≡ holidays s
  together_are s = append-nil (holidays s)

  any_last : (day : ℕ) (given : List YearDays) (c : YearDays)
      → is_holiday (holidays_of (given ++ c ∷ [])) day
      ≡ (is_holiday (holidays_of given) day || is_holiday c.days day)
  any_last day given c =
      ap (λ ds. is_holiday ds day)
      (flat_map-append (λ (g : YearDays). g.days) given (c ∷ [])
      ∙ ap (λ ds. holidays_of given ++ ds) (append-nil c.days))
      ∙ list_any-append (λ h. h == day) (holidays_of given) c.days

  -- the same days are holidays, in whatever order they stand
  same_holidays : (s : State) (day : ℕ) → is_holiday (holidays (Next s)) day ≡ is_holiday
      (holidays_of (Together s ++ Further s ∷ [])) day
  same_holidays s day =
      let force = is_in_force s.changed_days in
      let before = is_holiday (holidays_of s.calendars) day in
      let new = is_holiday days day in
      let added = is_holiday s.added_days day in
      let first : is_holiday (all_days (Next s)) day ≡ ((before || new) || added) =
      list_any-append (λ h. h == day) (holidays_of (s.calendars ++ Given ∷ [])) s.added_days
      ∙ ap (λ b. b || added) (any_last day s.calendars Given) in
      let second : is_holiday (all_days s) day ≡ (before || added) =
      list_any-append (λ h. h == day) (holidays_of s.calendars) s.added_days in
      is_among force (all_days (Next s)) day
      ∙ ap (λ b. b && force day) first
      ∙ of_either before new added (force day)
      ∙ sym (any_last day (Together s) (Further s)
      ∙ ap (λ ds. is_holiday ds day || is_holiday (filter force days) day) (together_are s)
      ∙ ap (λ b. b || is_holiday (filter force days) day)
      (is_among force (all_days s) day ∙ ap (λ b. b && force day) second)
      ∙ ap (λ b. ((before || added) && force day) || b) (is_among force days day))

  days_in_force : (s : State) → is_calendar year days ≡ true
      → All (λ day. year_of day ≡ year) (Further s).days
  days_in_force s fits =
      let force = is_in_force s.changed_days in
      all_has (λ day. year_of day ≡ year) (filter force days)
      (λ day has. has_all (λ d. year_of d ≡ year) days (days_of_its_year year days fits) day
      (has_filtered force days day has).0)

  -- the calendar of a year that is neither open nor follows an open one changes no obligation
  owed_still : (s : State) (name : List ℕ) (lines : List YearLine) (owed : List Obligation)
      → IsSound s → calendar_at s year ≡ None → is_calendar year days ≡ true
      → AreLinesOf (entries_of s name) lines → AreObligations (form_of (entries_of s name).account)
      lines (live_sums (entries_of s name)) (holidays s) owed
      → AreObligations (form_of (entries_of s name).account) lines (live_sums (entries_of s name))
      (holidays (Next s)) owed
  owed_still s name lines owed sound none fits are were =
      let form = form_of (entries_of s name).account in
      let sums = live_sums (entries_of s name) in
      let all = together_are s in
      let few : AreFew (holidays_of (Together s)) =
      subst AreFew (sym all) (few_in_force s sound.few) in
      let before : AreObligations form lines sums (holidays_of (Together s)) owed =
      subst (λ hs. AreObligations form lines sums hs owed) (sym all) were in
      let apart : (line : YearLine) → Has lines line → (line.year ≢ year) × (line.year + 1 ≢ year) =
      λ line has. (let known = line_opened s name lines sound are line has in (
        (λ is. true≢false (sym known.0 ∙ ap (is_given s) is ∙ ap is_some none)),
        (λ is. true≢false (sym known.1 ∙ ap (is_given s) is ∙ ap is_some none)),
      )) in
      let later = obligations_later form lines sums (Together s) (Further s) owed
      are.schedules.years few (days_in_force s fits) apart
      (rows_owed form lines sums (holidays_of (Together s)) owed before) in
      rows_stated form lines sums (holidays (Next s)) owed
      (obligations_same form lines sums sums (holidays_of (Together s ++ Further s ∷ []))
      (holidays (Next s)) owed are.schedules.years (λ day lies. refl)
      (λ o has day from to. same_holidays s day) later)

  settled_still : (t : Tables) (s : State) (name : List ℕ) → IsSound s → calendar_at s year ≡ None
      → is_calendar year days ≡ true → IsSettled t s name
      → IsSettled (with_calendar year days t) (Next s) name
  settled_still t s name sound none fits was = record {
    lines = was.lines;
    are_lines = was.are_lines;
    owed = was.owed;
    are_owed = owed_still s name was.lines was.owed sound none fits was.are_lines was.are_owed;
    line_rows = was.line_rows;
    owed_rows = was.owed_rows;
  }

  -- a check decides
  pub calendar_decided : (known : Option (List ℕ)) (answer : Answer)
      → first_of (calendar_checks year days known) ≡ Some answer
      → (s : State) → calendar_at s year ≡ known → Step s Asked answer s
  calendar_decided known answer decides s is =
      decided _ s answer _ (ap (λ k. first_of (calendar_checks year days k)) is ∙ decides)

  -- all checks pass
  pub calendar_done : (known : Option (List ℕ)) → first_of (calendar_checks year days known) ≡ None
      → (t : Tables) (s : State) → StandsFor t s → IsSound s → calendar_at s year ≡ known
      → (next : State) × Step s Asked (Ok Done) next × StandsFor (with_calendar year days t) next
  calendar_done known passes t s stands sound is =
      let answer : Answer = Ok Done in
      let step : Step s Asked answer (Next s) =
      passed _ s answer (Next s) _ (ap (λ k. first_of (calendar_checks year days k)) is ∙ passes)
      (refl, refl) in
      let new : Gives (calendar_checks year days known) (known ≡ None) =
      skip_needs _ _ _ _ (skip_needs _ _ _ _ (gives_new _ _ _ _)) in
      let fits : Gives (calendar_checks year days known) (is_calendar year days ≡ true) =
      skip_needs _ _ _ _ (gives_needs _ _ _) in
      let none : calendar_at s year ≡ None = is ∙ new.fact passes in (
        Next s,
        step,
        record {
          entries = (let e = stands.entries in entered e.meta e.enrolled e.figures (record {
            calendars = row_more calendar_entry s.calendars Given e.days.calendars;
            calendar_days = ap (λ rows. rows ++ map (holiday_row year) days) e.days.calendar_days
                ∙ ap (λ rows. flat_map holiday_entries s.calendars ++ rows)
                (sym (append-nil (map (holiday_row year) days)))
                ∙ sym (flat_map-append holiday_entries s.calendars (Given ∷ []));
            added_days = e.days.added_days;
            changed_days = e.days.changed_days;
          }) e.paid);
          settled = λ name. settled_still t s name sound none (fits.fact passes)
              (stands.settled name);
        },
      )

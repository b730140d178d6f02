-- The days of a journal: an empty desk takes the calendars, the added holidays and the changes, and
-- keeps the same.
use Rattle.std.proofs.Common.{◌≡◌, ◌∙◌, inl, inr, refl, sym, ap, subst, ℕ, ◌+◌, ◌==◌, ◌≤◌, ◌<◌}
use Rattle.std.proofs.Common.{Bool, true, false, List, [], ◌∷◌, ◌++◌, map, length, Option}
use Rattle.std.proofs.Common.{None, Some, arith, append-nil, append_assoc, length-append}
use Rattle.std.specs.Prelude.{find, flat_map, option_map, is_some, nat_lt, unwrap_or}
use Rattle.std.specs.List.{sum_by}
use Rattle.std.proofs.lemmas.Bool.{cases_Bool, eqb-true, lt-ltb, true≢false}
use Rattle.std.proofs.lemmas.Grind.{flat_map-append}
use Rattle.std.proofs.lemmas.List.{map-append}
use Rattle.std.proofs.lemmas.List.Sums.{sum_by-cons, length-filter}
use Rattle.ftd_days.specs.declared.limits.TheConstants.{MOST_HOLIDAYS}
use Rattle.ftd_days.specs.Calendar.{year_of}
use Rattle.ftd_days.specs.Business.{is_holiday}
use Rattle.ftd_days.specs.Holidays.{YearDays, holidays_of}
use Rattle.ftd_rules.specs.Lists.{Has}
use Rattle.ftd_rules.proofs.Members.{any_has, some_pass}
use Rattle.ftd_rules.proofs.Owed.{has_append, has_left, has_right}
use Rattle.ftd_machine.specs.declared.limits.TheConstants.{MOST_NUMBER}
use Rattle.ftd_machine.specs.Limits.{can_have_calendar}
use Rattle.ftd_machine.specs.Requests.{calendar_checks, add_holiday_checks, change_holiday_checks}
use Rattle.ftd_machine.specs.Requests.{days_of_year}
use Rattle.ftd_machine.specs.Sound.{AreDistinct, year_of_calendar, IsSound}
use Rattle.ftd_machine.specs.State.{State, DayChange, nothing, all_days, calendar_at, is_given}
use Rattle.ftd_machine.specs.State.{days_of}
use Rattle.ftd_machine.specs.State.{added_in, changes_of, numbered}
use Rattle.ftd_machine.specs.Journal.{in_order, is_calendar_before, calendar_given, holiday_added}
use Rattle.ftd_machine.specs.Journal.{day_changes, days_journal, corrections}
use Rattle.ftd_machine.specs.declared.requests.Request.TheVariants.{Correct}
use Rattle.ftd_machine.specs.declared.requests.Correction.TheVariants as correction
use Rattle.ftd_machine.proofs.DaysOnce.{calendar_with, once_right, once_across}
use Rattle.ftd_machine.proofs.Few.{count, count_append, lies_in, one_if}
use Rattle.ftd_machine.proofs.Found.{has_here, not_before, find_none, find_one, find_same}
use Rattle.ftd_machine.proofs.InOrder.{has_ordered, ordered_has, ordered_apart, sum_ordered}
use Rattle.ftd_machine.proofs.InYear.{AreFiled, filed_of, in_year, never_added}
use Rattle.ftd_machine.proofs.Keeping.{same_key, is_year}
use Rattle.ftd_machine.proofs.Members.{found_some, some_of}
use Rattle.ftd_machine.proofs.Numbers.{changes_append}
use Rattle.ftd_machine.proofs.Passing.{Pass, pass_end, pass_needs, pass_done, pass_finds, pass_new}
use Rattle.ftd_machine.proofs.Passing.{pass_next, number_fits}
use Rattle.ftd_machine.proofs.Taken.{Leads, leads_append, all_lead, each_leads, corrections_lead}

-- ---- members

is_one : (days : List ℕ) (day : ℕ) → Has days day → is_holiday days day ≡ true
is_one days day has = any_has (λ h. h == day) days day has (same_key day)

has_one : (days : List ℕ) (day : ℕ) → is_holiday days day ≡ true → Has days day
has_one days day is =
    let one = some_pass (λ h. h == day) days is in
    subst (Has days) (eqb-true one.0 day one.2) one.1

has_calendar : (cs : List YearDays) (c : YearDays) (d : ℕ) → Has cs c → Has c.days d
    → Has (holidays_of cs) d
has_calendar [] c d has there = absurd has
has_calendar (g ∷ cs) c d (inl is) there =
    has_left g.days (holidays_of cs) d (subst (λ (h : YearDays). Has h.days d) is there)
has_calendar (g ∷ cs) c d (inr has) there =
    has_right g.days (holidays_of cs) d (has_calendar cs c d has there)

-- ---- how many holidays a year has

count_cons : (year d : ℕ) (xs : List ℕ)
    → count year (d ∷ xs) ≡ one_if (lies_in year d) + count year xs
count_cons year d xs = sum_by-cons (λ e. one_if (lies_in year e)) d xs

count_all : (year : ℕ) (xs : List ℕ) → ((d : ℕ) → Has xs d → year_of d ≡ year)
    → count year xs ≡ length xs
count_all year [] all = refl
count_all year (d ∷ xs) all =
    let here : one_if (lies_in year d) ≡ 1 =
    ap one_if (ap (λ y. y == year) (all d (inl refl)) ∙ same_key year) in
    let rest = count_all year xs (λ e has. all e (inr has)) in
    let cons = count_cons year d xs in
    omega arith

-- of calendars one by one
count_calendars : (year : ℕ) (cs : List YearDays)
    → count year (holidays_of cs) ≡ sum_by (λ (c : YearDays). count year c.days) cs
count_calendars year [] = refl
count_calendars year (c ∷ cs) =
    let both = count_append year c.days (holidays_of cs) in
    let cons = sum_by-cons (λ (g : YearDays). count year g.days) c cs in
    let rest = count_calendars year cs in
    omega arith

-- a calendar has no more days than are given of its year
calendar_counts : (year : ℕ) (cs : List YearDays) (c : YearDays) → Has cs c
    → count year c.days ≤ count year (holidays_of cs)
calendar_counts year [] c has = absurd has
calendar_counts year (g ∷ cs) c (inl is) =
    let both = count_append year g.days (holidays_of cs) in
    let same : count year c.days ≡ count year g.days =
    ap (λ (h : YearDays). count year h.days) is in
    omega arith
calendar_counts year (g ∷ cs) c (inr has) =
    let both = count_append year g.days (holidays_of cs) in
    let rest = calendar_counts year cs c has in
    omega arith

-- ---- changes

abbrev changed_on : ℕ → Bool → DayChange
changed_on day is_one = record { day = day; is_holiday = is_one }

abbrev changes_on : ℕ → List Bool → List DayChange
changes_on day flags = map (changed_on day) flags

changes_same : (day : ℕ) (flags : List Bool) → changes_of day (changes_on day flags) ≡ flags
changes_same day [] = refl
changes_same day (flag ∷ flags) =
    rw (same_key day) (ap (λ xs. flag ∷ xs) (changes_same day flags))

-- of another day
changes_other : (day other : ℕ) (flags : List Bool) → (day ≡ other → ⊥)
    → changes_of other (changes_on day flags) ≡ []
changes_other day other [] apart = refl
changes_other day other (flag ∷ flags) apart = elim (cases_Bool (day == other)) [
  | inl same ↦ absurd (apart (eqb-true day other same))
  | inr differs ↦ rw differs (changes_other day other flags apart)
]

never_changed : (changes : List DayChange) (day : ℕ)
    → ((c : DayChange) → Has changes c → c.day ≡ day → ⊥) → changes_of day changes ≡ []
never_changed [] day none = refl
never_changed (c ∷ changes) day none =
    let rest = never_changed changes day (λ x has. none x (inr has)) in
    elim (cases_Bool (c.day == day)) [
      | inl same ↦ absurd (none c (inl refl) (eqb-true c.day day same))
      | inr other ↦ rw other rest
    ]

-- the changes of these days, day by day
abbrev all_changes : State → List ℕ → List DayChange
all_changes s days = flat_map (λ day. changes_on day (changes_of day s.changed_days)) days

none_elsewhere : (s : State) (day : ℕ) (days : List ℕ) → (Has days day → ⊥)
    → changes_of day (all_changes s days) ≡ []
none_elsewhere s day [] apart = refl
none_elsewhere s day (d ∷ days) apart =
    changes_append day (changes_on d (changes_of d s.changed_days)) (all_changes s days)
    ∙ ap (λ xs. xs ++ changes_of day (all_changes s days))
    (changes_other d day (changes_of d s.changed_days) (λ is. apart (inl (sym is))))
    ∙ none_elsewhere s day days (λ has. apart (inr has))

own_changes : (s : State) (day : ℕ) (days : List ℕ) → AreDistinct (λ (d : ℕ). d) days
    → Has days day → changes_of day (all_changes s days) ≡ changes_of day s.changed_days
own_changes s day [] apart has = absurd has
own_changes s day (d ∷ days) apart has =
    let split = changes_append day (changes_on d (changes_of d s.changed_days))
    (all_changes s days) in
    elim has [
      | inl is ↦ split
          ∙ ap (λ x. changes_of day (changes_on x (changes_of x s.changed_days))
          ++ changes_of day (all_changes s days)) (sym is)
          ∙ ap (λ xs. xs ++ changes_of day (all_changes s days))
          (changes_same day (changes_of day s.changed_days))
          ∙ ap (λ ys. changes_of day s.changed_days ++ ys)
          (none_elsewhere s day days (λ later. apart.0 day later is))
          ∙ append-nil (changes_of day s.changed_days)
      | inr later ↦ split
          ∙ ap (λ xs. xs ++ changes_of day (all_changes s days))
          (changes_other d day (changes_of d s.changed_days) (λ is. apart.0 day later (sym is)))
          ∙ own_changes s day days apart.1 later
    ]

-- these changes of the day behind what there is
abbrev more_changes : State → ℕ → List Bool → State
more_changes t day flags =
    record t { changed_days = t.changed_days ++ changes_on day flags }

-- the changes of a day that has none yet, and that was given or added
day_lead : (t : State) (day : ℕ) (flags : List Bool)
    → can_have_calendar (year_of day) ≡ true → is_given t (year_of day) ≡ true
    → is_holiday (days_of_year (calendar_at t (year_of day)) (added_in t (year_of day))) day ≡ true
    → changes_of day t.changed_days ≡ [] → length flags ≤ MOST_NUMBER
    → Leads (corrections (λ is_one. correction.Holiday day is_one) flags) t
    (record t { changed_days = t.changed_days ++ changes_on day flags })
day_lead t day flags year given there none few =
    subst (λ cs. Leads (corrections (λ is_one. correction.Holiday day is_one) flags)
    (record t { changed_days = cs }) (more_changes t day flags)) (append-nil t.changed_days)
    (corrections_lead (λ is_one. correction.Holiday day is_one) (more_changes t day) flags one)
  where
    one : (xs : List Bool) (x : Bool) (rest : List Bool) → flags ≡ xs ++ x ∷ rest
        → Leads (Correct (length xs + 1) (correction.Holiday day x) ∷ []) (more_changes t day xs)
        (more_changes t day (xs ++ x ∷ []))
    one xs x rest is =
        let known = changes_of day (more_changes t day xs).changed_days in
        let its : known ≡ xs = changes_append day t.changed_days (changes_on day xs)
        ∙ ap (λ ys. ys ++ changes_of day (changes_on day xs)) none ∙ changes_same day xs in
        let pass : Pass (change_holiday_checks day (length xs + 1) x
        (calendar_at t (year_of day)) (added_in t (year_of day))
        (numbered (length xs + 1) known) (length known)) =
        pass_needs _ _ _ year (pass_needs _ _ _ (number_fits flags xs x rest is few)
        (pass_finds _ _ _ given (pass_needs _ _ _ there (pass_next xs known _ _ its)))) in
        record {
          pass = (pass.ok, tt);
          ends = ap (λ cs. record t { changed_days = cs })
              (append_assoc t.changed_days (changes_on day xs) _
              ∙ ap (λ cs. t.changed_days ++ cs)
              (sym (map-append (changed_on day) xs (x ∷ []))));
        }

-- ---- the days of a sound state

module _ (s : State) (sound : IsSound s) where
  abbrev given : List YearDays
  given = in_order is_calendar_before s.calendars

  abbrev added : List ℕ
  added = in_order nat_lt s.added_days

  abbrev changed : List ℕ
  changed = in_order nat_lt (all_days s)

  -- the calendars, more and more of them; then the added holidays, then the changes of each day
  abbrev with_calendars : List YearDays → State
  with_calendars xs = record nothing { calendars = xs }

  abbrev with_added : List ℕ → State
  with_added xs = record nothing { calendars = given; added_days = xs }

  abbrev with_changes : List ℕ → State
  with_changes xs = record nothing {
    calendars = given;
    added_days = added;
    changed_days = all_changes s xs;
  }

  abbrev pub days_made : State
  days_made = with_changes changed

  apart : AreDistinct year_of_calendar given
  apart = ordered_apart is_calendar_before year_of_calendar s.calendars sound.calendars

  filed : AreFiled given
  filed c has = filed_of s sound c (has_ordered is_calendar_before s.calendars c has)

  -- ---- calendars

  calendars_lead : Leads (map calendar_given given) nothing (with_calendars given)
  calendars_lead = each_leads calendar_given with_calendars given one
    where
      one : (xs : List YearDays) (c : YearDays) (rest : List YearDays) → given ≡ xs ++ c ∷ rest
          → Leads (calendar_given c ∷ []) (with_calendars xs) (with_calendars (xs ++ c ∷ []))
      one xs c rest is =
          let has : Has given c = subst (λ cs. Has cs c) (sym is)
          (has_here xs c rest) in
          let fits = sound.are_calendars c (has_ordered is_calendar_before s.calendars c has) in
          let fresh : calendar_at (with_calendars xs) c.year ≡ None =
          ap (option_map days_of) (find_none (is_year c.year) xs (λ x before same.
          not_before year_of_calendar xs c rest
          (subst (AreDistinct year_of_calendar) is apart) x before (eqb-true x.year c.year same)))
          in
          let pass : Pass (calendar_checks c.year c.days
          (calendar_at (with_calendars xs) c.year)) =
          pass_needs _ _ _ fits.0 (pass_needs _ _ _ fits.1 (pass_new _ _ _ _ fresh pass_end)) in
          record { pass = (pass.ok, tt); ends = refl }

  same_calendars : (year : ℕ) → option_map days_of (find (is_year year) given)
      ≡ calendar_at s year
  same_calendars year = ap (option_map days_of)
      (find_same (is_year year) year_of_calendar s.calendars given sound.calendars apart
      (λ x y has_x has_y a b. eqb-true x.year year a ∙ sym (eqb-true y.year year b))
      (ordered_has is_calendar_before s.calendars) (has_ordered is_calendar_before s.calendars))

  -- a year that is given is one of 2001 to 2099
  in_years : (year : ℕ) → is_given s year ≡ true → can_have_calendar year ≡ true
  in_years year there =
      let days = some_of (calendar_at s year) there in
      let c = found_some days_of (is_year year) s.calendars days.0 days.1 in
      subst (λ y. can_have_calendar y ≡ true) (eqb-true c.0.year year c.2)
      (sound.are_calendars c.0 c.1).0

  pub given_still : (year : ℕ) → is_given s year ≡ true → is_given days_made year ≡ true
  given_still year there = ap is_some (same_calendars year) ∙ there

  -- the same days are given
  holiday_of : (d : ℕ) → Has (holidays_of given) d → Has (holidays_of s.calendars) d
  holiday_of d has =
      let c = calendar_with given d has in
      has_calendar s.calendars c.0 d (has_ordered is_calendar_before s.calendars c.0 c.1) c.2

  holiday_still : (d : ℕ) → Has (holidays_of s.calendars) d → Has (holidays_of given) d
  holiday_still d has =
      let c = calendar_with s.calendars d has in
      has_calendar given c.0 d (ordered_has is_calendar_before s.calendars c.0 c.1) c.2

  -- a day that was given or added is of a year that is given
  year_given : (d : ℕ) → Has (all_days s) d → is_given s (year_of d) ≡ true
  year_given d has = elim (has_append (holidays_of s.calendars) s.added_days d has) [
    | inr was_added ↦ sound.added_days d was_added
    | inl was_given ↦ (let c = calendar_with s.calendars d was_given in
        let year : year_of d ≡ c.0.year = filed_of s sound c.0 c.1 d c.2 in
        subst (λ y. is_given s y ≡ true) (sym year) (is_there c.0 c.1))
  ]
    where
      is_there : (c : YearDays) → Has s.calendars c → is_given s c.year ≡ true
      is_there c there = ap (λ o. is_some (option_map days_of o))
          (find_one (is_year c.year) year_of_calendar s.calendars c sound.calendars there
          (same_key c.year) (λ x x_has same. sym (eqb-true x.year c.year same)))

  -- ---- added holidays

  -- there is room for one more
  room : (xs : List ℕ) (d : ℕ) (rest : List ℕ) → added ≡ xs ++ d ∷ rest → (found : Option (List ℕ))
      → calendar_at (with_added xs) (year_of d) ≡ found → is_some found ≡ true
      → length (days_of_year found (added_in (with_added xs) (year_of d))) < 60
  room xs d rest is None at there = absurd cc
  room xs d rest is (Some days) at there =
      let year = year_of d in
      let c = found_some days_of (is_year year) given days at in
      let its : c.0.days ≡ days = days_at c.0 c.1 (eqb-true c.0.year year c.2) in
      let all = sound.few year in
      let a = count_append year (holidays_of s.calendars) s.added_days in
      let g = count_calendars year given in
      let h = count_calendars year s.calendars in
      let same : sum_by (λ (k : YearDays). count year k.days) given
      ≡ sum_by (λ (k : YearDays). count year k.days) s.calendars =
      sum_ordered is_calendar_before (λ (k : YearDays). count year k.days) s.calendars in
      let more : count year added ≡ count year s.added_days =
      sum_ordered nat_lt (λ e. one_if (lies_in year e)) s.added_days in
      let split : count year added ≡ count year xs + count year (d ∷ rest) =
      ap (count year) is ∙ count_append year xs (d ∷ rest) in
      let cons = count_cons year d rest in
      let here : one_if (lies_in year d) ≡ 1 = ap one_if (same_key year) in
      let most = calendar_counts year given c.0 c.1 in
      let long : count year c.0.days ≡ length c.0.days =
      count_all year c.0.days (λ e has. filed c.0 c.1 e has ∙ eqb-true c.0.year year c.2) in
      let as_long : length c.0.days ≡ length days = ap length its in
      let own : length (added_in (with_added xs) year) ≡ count year xs =
      length-filter (lies_in year) xs in
      let both = length-append days (added_in (with_added xs) year) in
      omega arith
    where
      days_at : (c : YearDays) → Has given c → c.year ≡ year_of d → c.days ≡ days
      days_at c has same = ap (λ (o : Option (List ℕ)). unwrap_or o [])
          (sym (ap (option_map days_of) (find_one (is_year (year_of d)) year_of_calendar given c
          apart has (ap (λ y. y == year_of d) same ∙ same_key (year_of d))
          (λ x x_has e. same ∙ sym (eqb-true x.year (year_of d) e)))) ∙ at)

  added_lead : Leads (map holiday_added added) (with_added []) (with_added added)
  added_lead = each_leads holiday_added with_added added one
    where
      one : (xs : List ℕ) (d : ℕ) (rest : List ℕ) → added ≡ xs ++ d ∷ rest
          → Leads (holiday_added d ∷ []) (with_added xs) (with_added (xs ++ d ∷ []))
      one xs d rest is =
          let among : (x : ℕ) → Has (xs ++ d ∷ rest) x → Has s.added_days x =
          λ x has. has_ordered nat_lt s.added_days x (subst (λ ds. Has ds x) (sym is) has) in
          let mine : Has s.added_days d = among d (has_here xs d rest) in
          let there : is_given s (year_of d) ≡ true = sound.added_days d mine in
          let here : is_given (with_added xs) (year_of d) ≡ true =
          ap is_some (same_calendars (year_of d)) ∙ there in
          let once : AreDistinct (λ (e : ℕ). e) added =
          ordered_apart nat_lt (λ e. e) s.added_days
          (once_right (holidays_of s.calendars) s.added_days sound.days_once) in
          let off : is_holiday (days_of_year (calendar_at (with_added xs) (year_of d))
          (added_in (with_added xs) (year_of d))) d ≡ false =
          sym (in_year (with_added xs) apart filed
          (λ x has. ap is_some (same_calendars (year_of x))
          ∙ sound.added_days x (among x (has_left xs (d ∷ rest) x has))) d)
          ∙ never_added d (all_days (with_added xs)) (λ x has same.
          elim (has_append (holidays_of given) xs x has) [
            | inl was_given ↦ once_across (holidays_of s.calendars) s.added_days sound.days_once d
                (subst (Has (holidays_of s.calendars)) same (holiday_of x was_given)) mine
            | inr before ↦ not_before (λ (e : ℕ). e) xs d rest
                (subst (AreDistinct (λ (e : ℕ). e)) is once) x before same
          ]) in
          let pass : Pass (add_holiday_checks d (calendar_at (with_added xs) (year_of d))
          (added_in (with_added xs) (year_of d))) =
          pass_needs _ _ _ (in_years (year_of d) there) (pass_done _ _ off
          (pass_finds _ _ _ here (pass_needs _ _ _
          (lt-ltb _ MOST_HOLIDAYS (room xs d rest is (calendar_at (with_added xs) (year_of d)) refl
          here)) pass_end))) in
          record { pass = (pass.ok, tt); ends = refl }

  -- ---- changes

  all_still : (d : ℕ) → Has (all_days s) d → Has (holidays_of given ++ added) d
  all_still d has = elim (has_append (holidays_of s.calendars) s.added_days d has) [
    | inl was_given ↦ has_left (holidays_of given) added d (holiday_still d was_given)
    | inr was_added ↦ has_right (holidays_of given) added d
        (ordered_has nat_lt s.added_days d was_added)
  ]

  changed_once : AreDistinct (λ (e : ℕ). e) changed
  changed_once = ordered_apart nat_lt (λ e. e) (all_days s) sound.days_once

  changed_lead : Leads (flat_map (day_changes s) changed) (with_changes []) days_made
  changed_lead = all_lead (day_changes s) with_changes changed one
    where
      one : (xs : List ℕ) (d : ℕ) (rest : List ℕ) → changed ≡ xs ++ d ∷ rest
          → Leads (day_changes s d) (with_changes xs) (with_changes (xs ++ d ∷ []))
      one xs d rest is =
          let flags = changes_of d s.changed_days in
          let mine : Has (all_days s) d = has_ordered nat_lt (all_days s) d
          (subst (λ ds. Has ds d) (sym is) (has_here xs d rest)) in
          let there = year_given d mine in
          let none = none_elsewhere s d xs (λ before.
          not_before (λ (e : ℕ). e) xs d rest (subst (AreDistinct (λ (e : ℕ). e)) is changed_once)
          d before refl) in
          let holiday = sym (in_year (with_changes xs) apart filed
          (λ x has. ap is_some (same_calendars (year_of x))
          ∙ sound.added_days x (has_ordered nat_lt s.added_days x has)) d)
          ∙ is_one (holidays_of given ++ added) d (all_still d mine) in
          let lead = day_lead (with_changes xs) d flags (in_years (year_of d) there)
          (given_still (year_of d) there) holiday none (sound.change_counts d) in
          let more : all_changes s xs ++ changes_on d flags ≡ all_changes s (xs ++ d ∷ []) =
          sym (flat_map-append (λ day. changes_on day (changes_of day s.changed_days)) xs (d ∷ [])
          ∙ ap (λ cs. all_changes s xs ++ cs) (append-nil (changes_on d flags))) in
          record {
            pass = lead.pass;
            ends = lead.ends ∙ ap (λ cs. record nothing {
              calendars = given;
              added_days = added;
              changed_days = cs;
            }) more;
          }

  -- ---- the days together

  pub days_lead : Leads (days_journal s) nothing days_made
  days_lead =
      leads_append (map calendar_given given ++ map holiday_added added)
      (flat_map (day_changes s) changed) nothing (with_added added) days_made
      (leads_append (map calendar_given given) (map holiday_added added) nothing
      (with_calendars given) (with_added added) calendars_lead added_lead) changed_lead

  -- ---- the same are kept

  same_added : (d : ℕ) (b : Bool) → is_holiday s.added_days d ≡ b → is_holiday added d ≡ b
  same_added d true e =
      is_one added d (ordered_has nat_lt s.added_days d (has_one s.added_days d e))
  same_added d false e = never_added d added (λ x has same.
      true≢false (sym (is_one s.added_days d
      (subst (Has s.added_days) same (has_ordered nat_lt s.added_days x has))) ∙ e))

  same_changes : (d : ℕ) (b : Bool) → is_holiday (all_days s) d ≡ b
      → changes_of d days_made.changed_days ≡ changes_of d s.changed_days
  same_changes d true is = own_changes s d changed changed_once
      (ordered_has nat_lt (all_days s) d (has_one (all_days s) d is))
  same_changes d false is =
      none_elsewhere s d changed (λ has. true≢false
      (sym (is_one (all_days s) d (has_ordered nat_lt (all_days s) d has)) ∙ is))
      ∙ sym (never_changed s.changed_days d (λ c has same.
      true≢false (sym (sound.changed c has) ∙ ap (is_holiday (all_days s)) same ∙ is)))

  pub same_days : ((year : ℕ) → calendar_at days_made year ≡ calendar_at s year)
      × ((day : ℕ) → is_holiday days_made.added_days day ≡ is_holiday s.added_days day)
      × ((day : ℕ) → changes_of day days_made.changed_days ≡ changes_of day s.changed_days)
  same_days = (
    same_calendars,
    (λ day. same_added day (is_holiday s.added_days day) refl),
    (λ day. same_changes day (is_holiday (all_days s) day) refl),
  )

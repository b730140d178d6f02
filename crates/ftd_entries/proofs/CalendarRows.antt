-- What the rows of the calendars tell of a year.
use Rattle.std.proofs.Common.{◌≡◌, ℕ, ℤ, Bool, true, false, pos, negsuc, ◌<◌, ◌≤◌, ◌==◌, List, []}
use Rattle.std.proofs.Common.{◌∷◌, ◌++◌, map, Option, None, Some, Vec, inl, inr, refl, sym, ap}
use Rattle.std.proofs.Common.{subst, ◌∙◌, arith}
use Rattle.std.proofs.lemmas.Bool.{true≢false, eqb-true, ltb-true, and_parts}
use Rattle.std.proofs.lemmas.Bool.Decides.{Decides-int_eq}
use Rattle.std.proofs.lemmas.Int.{ints}
use Rattle.std.proofs.lemmas.List.{append-nil}
use Rattle.std.proofs.lemmas.List.Elements.{filter-append}
use Rattle.std.proofs.lemmas.List.Concat.{flat_map-cons}
use Rattle.std.proofs.Math.IntN.{◌+ℤ◌, -ℤ-+ℤ_cancel}
use Rattle.std.specs.Prelude.{filter, find, option_map, flat_map, is_some, nat_le, nat_lt}
use Rattle.std.specs.Prelude.{if◌then◌else◌, ◌&&◌, ◌≤ℤ◌}
use Rattle.std.specs.Ordering.{int_eq}
use Rattle.std.specs.List.{list_all}
use Rattle.ftd_days.specs.Calendar.{year_of}
use Rattle.ftd_days.specs.Holidays.{YearDays}
use Rattle.ftd_rules.specs.Lists.{Has, KeysRise}
use Rattle.ftd_rules.proofs.Rising.{sorted_is, next_do_not_fall}
use Rattle.ftd_rules.proofs.Members.{has_mapped}
use Rattle.ftd_sql.specs.declared.TableName.TheVariants.{Holidays}
use Rattle.ftd_sql.specs.Rows.{HolidayRow, CalendarYearRow}
use Rattle.ftd_sql.specs.Standing.{Tables}
use Rattle.ftd_sql.specs.Orders.{HolidaysRise}
use Rattle.ftd_sql.specs.Tests.{is_calendar_year, is_holiday_of}
use Rattle.ftd_store.specs.Lists.{Pairs, Lists}
use Rattle.ftd_store.specs.Rows.{calendar_year_row, holiday_row}
use Rattle.ftd_store.specs.Finds.{FindsCalendar, IsHoliday}
use Rattle.ftd_machine.specs.Limits.{are_rising}
use Rattle.ftd_machine.specs.State.{State, days_of, calendar_at}
use Rattle.ftd_machine.specs.Sound.{IsSound, AreDistinct, year_of_calendar}
use Rattle.ftd_machine.proofs.Keeping.{same_key, is_year}
use Rattle.ftd_entries.specs.Standing.{StandsFor, KeepsDays, calendar_entry, holiday_entries}

-- ---- years as cells

pub year_cell : (a b : ℕ) → int_eq (pos a) (pos b) ≡ (a == b)
year_cell a b = test (a == b) refl (int_eq (pos a) (pos b)) refl
  where
    test : (x : Bool) → (a == b) ≡ x → (y : Bool) → int_eq (pos a) (pos b) ≡ y → y ≡ x
    test true e true is = refl
    test true e false is = let same : a ≡ b = eqb-true a b e in
        absurd (true≢false (sym ((Decides-int_eq (pos a) (pos b)).1 (ap pos same)) ∙ is))
    test false e true is =
        let cells : pos a ≡ pos b = (Decides-int_eq (pos a) (pos b)).0 is in
        let same : a ≡ b = cc in
        absurd (true≢false (sym (ap (λ n. n == b) same ∙ same_key b) ∙ e))
    test false e false is = refl

-- ---- whether a calendar is given

absent : (year : ℕ) (cs : List YearDays) → filter (is_calendar_year (pos year))
    (map calendar_entry cs) ≡ [] → option_map days_of (find (is_year year) cs) ≡ None
absent year [] h = refl
absent year (c ∷ cs) h =
    step (c.year == year)
    (subst (λ b. (if b then calendar_entry c ∷ filter (is_calendar_year (pos year))
    (map calendar_entry cs) else filter (is_calendar_year (pos year)) (map calendar_entry cs)) ≡ [])
    (year_cell c.year year) h) (absent year cs)
  where
    step : (b : Bool) → (if b then calendar_entry c ∷ filter (is_calendar_year (pos year))
        (map calendar_entry cs) else filter (is_calendar_year (pos year)) (map calendar_entry cs))
        ≡ []
        → (filter (is_calendar_year (pos year)) (map calendar_entry cs) ≡ []
        → option_map days_of (find (is_year year) cs) ≡ None)
        → option_map days_of (if b then Some c else find (is_year year) cs) ≡ None
    step true h more = absurd cc
    step false h more = more h

present : (year : ℕ) (cs : List YearDays) (row : CalendarYearRow)
    → filter (is_calendar_year (pos year)) (map calendar_entry cs) ≡ row ∷ []
    → is_some (find (is_year year) cs) ≡ true
present year [] row h = absurd cc
present year (c ∷ cs) row h =
    step (c.year == year)
    (subst (λ b. (if b then calendar_entry c ∷ filter (is_calendar_year (pos year))
    (map calendar_entry cs) else filter (is_calendar_year (pos year)) (map calendar_entry cs)) ≡ row
    ∷ []) (year_cell c.year year) h) (present year cs row)
  where
    step : (b : Bool) → (if b then calendar_entry c ∷ filter (is_calendar_year (pos year))
        (map calendar_entry cs) else filter (is_calendar_year (pos year)) (map calendar_entry cs))
        ≡ row ∷ []
        → (filter (is_calendar_year (pos year)) (map calendar_entry cs) ≡ row ∷ []
        → is_some (find (is_year year) cs) ≡ true)
        → is_some (if b then Some c else find (is_year year) cs) ≡ true
    step true h more = refl
    step false h more = more h

-- ---- the holidays of a year

one_calendar : (year other : ℕ) (days : List ℕ) (b : Bool) → int_eq (pos other) (pos year) ≡ b
    → filter (is_holiday_of (pos year)) (map (holiday_row other) days)
    ≡ (if b then map (holiday_row other) days else [])
one_calendar year other [] true e = refl
one_calendar year other [] false e = refl
one_calendar year other (d ∷ days) true e =
    rw e (ap (λ rows. holiday_row other d ∷ rows) (one_calendar year other days true e))
one_calendar year other (d ∷ days) false e = rw e (one_calendar year other days false e)

-- where no calendar is of the year
no_holidays : (year : ℕ) (cs : List YearDays) → ((c : YearDays) → Has cs c → c.year ≡ year → ⊥)
    → filter (is_holiday_of (pos year)) (flat_map holiday_entries cs) ≡ []
no_holidays year [] other = refl
no_holidays year (c ∷ cs) other =
    let off : int_eq (pos c.year) (pos year) ≡ false = year_cell c.year year
    ∙ apart (c.year == year) refl in
    ap (filter (is_holiday_of (pos year))) (flat_map-cons holiday_entries c cs)
    ∙ filter-append (is_holiday_of (pos year)) (holiday_entries c) (flat_map holiday_entries cs)
    ∙ ap (λ rows. rows ++ filter (is_holiday_of (pos year)) (flat_map holiday_entries cs))
    (one_calendar year c.year c.days false off)
    ∙ no_holidays year cs (λ g has. other g (inr has))
  where
    apart : (b : Bool) → (c.year == year) ≡ b → b ≡ false
    apart true e = absurd (other c (inl refl) (eqb-true c.year year e))
    apart false e = refl

abbrev days_rows : ℕ → Option (List ℕ) → List HolidayRow
days_rows year None = []
days_rows year (Some days) = map (holiday_row year) days

year_holidays : (year : ℕ) (cs : List YearDays) → AreDistinct year_of_calendar cs
    → filter (is_holiday_of (pos year)) (flat_map holiday_entries cs) ≡ days_rows year
    (option_map days_of (find (is_year year) cs))
year_holidays year [] apart = refl
year_holidays year (c ∷ cs) apart =
    ap (filter (is_holiday_of (pos year))) (flat_map-cons holiday_entries c cs)
    ∙ filter-append (is_holiday_of (pos year)) (holiday_entries c) (flat_map holiday_entries cs)
    ∙ step (c.year == year) refl (year_holidays year cs apart.1)
  where
    step : (b : Bool) → (c.year == year) ≡ b → filter (is_holiday_of (pos year))
        (flat_map holiday_entries cs) ≡ days_rows year (option_map days_of (find (is_year year) cs))
        → filter (is_holiday_of (pos year)) (holiday_entries c) ++ filter (is_holiday_of (pos year))
        (flat_map holiday_entries cs)
        ≡ days_rows year (option_map days_of (if b then Some c else find (is_year year) cs))
    step true e more =
        let its : c.year ≡ year = eqb-true c.year year e in
        let here = one_calendar year c.year c.days true (year_cell c.year year ∙ e) in
        let none = no_holidays year cs (λ g has same. apart.0 g has (same ∙ sym its)) in
        ap (λ rows. rows ++ filter (is_holiday_of (pos year)) (flat_map holiday_entries cs)) here
        ∙ ap (λ rows. map (holiday_row c.year) c.days ++ rows) none
        ∙ append-nil (map (holiday_row c.year) c.days)
        ∙ ap (λ y. map (holiday_row y) c.days) its
    step false e more =
        ap (λ rows. rows ++ filter (is_holiday_of (pos year)) (flat_map holiday_entries cs))
        (one_calendar year c.year c.days false (year_cell c.year year ∙ e)) ∙ more

-- ---- days in their order

abbrev pub whole : ℤ → ℕ
whole (pos n) = n
whole (negsuc n) = 0

abbrev day_key : HolidayRow → ℕ
day_key row = whole (row.day +ℤ pos 25_567)

day_key_is : (year day : ℕ) → day_key (holiday_row year day) ≡ day
day_key_is year day = ap whole (-ℤ-+ℤ_cancel (pos day) (pos 25_567))

pub whole_rises : (a b : ℤ) → a ≤ℤ b → whole a ≤ whole b
whole_rises (pos a) (pos b) h = omega (arith, ints)
whole_rises (pos a) (negsuc b) h = absurd (omega (arith, ints))
whole_rises (negsuc a) b h = omega arith

pub key_rises : (a b : ℤ) → a ≤ℤ b → whole (a +ℤ pos 25_567) ≤ whole (b +ℤ pos 25_567)
key_rises a b h = whole_rises (a +ℤ pos 25_567) (b +ℤ pos 25_567) (omega (arith, ints))

abbrev pub itself : ℕ → ℕ
itself day = day

pub rising : (days : List ℕ) → are_rising days ≡ true → KeysRise itself days
rising [] e = tt
rising (x ∷ []) e = ((λ later has. absurd has), tt)
rising (x ∷ y ∷ days) e =
    let parts = and_parts (nat_lt x y) (are_rising (y ∷ days)) e in
    let first : x < y = ltb-true x y parts.0 in
    let rest : KeysRise itself (y ∷ days) = rising (y ∷ days) parts.1 in (
      (λ later has. elim has [
        | inl is ↦ omega arith
        | inr after ↦ let more = rest.0 later after in
            omega arith
      ]),
      rest,
    )

rows_rise : (year : ℕ) (days : List ℕ) → KeysRise itself days
    → KeysRise day_key (map (holiday_row year) days)
rows_rise year [] rise = tt
rows_rise year (d ∷ days) rise = (
  (λ later has.
      (let from = has_mapped (holiday_row year) days later has in
      let less = rise.0 from.0 from.1 in
      let first = day_key_is year d in
      let second : day_key later ≡ from.0 = ap day_key from.2 ∙ day_key_is year from.0 in
      omega arith)),
  rows_rise year days rise.1,
)

back : (year : ℕ) (days : List ℕ) → map day_key (map (holiday_row year) days) ≡ days
back year [] = refl
back year (d ∷ days) = ap (λ n. n ∷ map day_key (map (holiday_row year) days)) (day_key_is year d)
    ∙ ap (λ ns. d ∷ ns) (back year days)

paired : (year : ℕ) (rows : List HolidayRow) (days : List ℕ) → Pairs (IsHoliday year) rows days
    → rows ≡ map (holiday_row year) days
paired year [] [] pairs = refl
paired year [] (d ∷ days) pairs = absurd pairs
paired year (row ∷ rows) [] pairs = absurd pairs
paired year (row ∷ rows) (d ∷ days) pairs = ap (λ r. r ∷ rows) pairs.0
    ∙ ap (λ rs. holiday_row year d ∷ rs) (paired year rows days pairs.1)

-- the rows of rising days list these days
pub days_listed : (year : ℕ) (days listed : List ℕ) → KeysRise itself days
    → Lists HolidaysRise (IsHoliday year) (map (holiday_row year) days) listed → listed ≡ days
days_listed year days listed rise l =
    let sorted : l.ordered ≡ map (holiday_row year) days =
    sorted_is day_key (map (holiday_row year) days) l.ordered (rows_rise year days rise)
    (next_do_not_fall day_key l.ordered (λ k d less. key_rises _ _ (l.rise k d less))) l.same in
    sym (back year listed) ∙ ap (map day_key) (sym (paired year l.ordered listed l.pairs) ∙ sorted)
    ∙ back year days

-- ---- the calendar of a year

found_in : {X : Type 0} (test : X → Bool) (xs : List X) (x : X) → find test xs ≡ Some x → Has xs x
found_in test [] x e = absurd cc
found_in test (z ∷ xs) x e = step (test z) e (found_in test xs x)
  where
    step : (b : Bool) → (if b then Some z else find test xs) ≡ Some x
        → (find test xs ≡ Some x → Has xs x) → Has (z ∷ xs) x
    step true e more = let same : z ≡ x = cc in inl (sym same)
    step false e more = inr (more e)

calendar_rises : (s : State) → IsSound s → (c : YearDays) → Has s.calendars c
    → KeysRise itself c.days
calendar_rises s sound c has =
    let fits = (sound.are_calendars c has).1 in
    let rest =
    (and_parts (nat_le _ 60) (list_all (λ day. year_of day == c.year) c.days && are_rising c.days)
    fits).1 in
    rising c.days (and_parts (list_all (λ day. year_of day == c.year) c.days) (are_rising c.days)
    rest).1

abbrev pub days_found : {A : Type 0} → Vec ℕ A → List ℕ
days_found days = days.items

-- the calendar that was found is the one that the state keeps
pub calendar_kept : {A : Type 0} (year : ℕ) (found : Option (Vec ℕ A)) (t : Tables) (s : State)
    → KeepsDays t s → IsSound s → FindsCalendar year found t
    → calendar_at s year ≡ option_map days_found found
calendar_kept year None t s keeps sound finds = absent year s.calendars
    (ap (filter (is_calendar_year (pos year))) (sym keeps.calendars) ∙ finds)
calendar_kept {A = A} year (Some days) t s keeps sound finds =
    step (find (is_year year) s.calendars) refl
  where
    rows : filter (is_holiday_of (pos year)) (t Holidays) ≡ days_rows year
        (option_map days_of (find (is_year year) s.calendars))
    rows = ap (filter (is_holiday_of (pos year))) keeps.calendar_days
        ∙ year_holidays year s.calendars sound.calendars

    step : (o : Option YearDays) → find (is_year year) s.calendars ≡ o
        → option_map days_of o ≡ Some days.items
    step None is =
        absurd (true≢false
        (sym (present year s.calendars (calendar_year_row year)
        (ap (filter (is_calendar_year (pos year))) (sym keeps.calendars) ∙ finds.0))
        ∙ ap is_some is))
    step (Some c) is =
        let its : filter (is_holiday_of (pos year)) (t Holidays) ≡ map (holiday_row year) c.days =
        rows ∙ ap (λ o. days_rows year (option_map days_of o)) is in
        let listed : Lists HolidaysRise (IsHoliday year) (map (holiday_row year) c.days)
        days.items = subst (λ rs. Lists HolidaysRise (IsHoliday year) rs days.items) its finds.1 in
        ap Some (sym
        (days_listed year c.days days.items
        (calendar_rises s sound c (found_in (is_year year) s.calendars c is)) listed))

pub calendar_known : {A : Type 0} (year : ℕ) (found : Option (Vec ℕ A)) (t : Tables) (s : State)
    → StandsFor t s → IsSound s → FindsCalendar year found t
    → calendar_at s year ≡ option_map days_found found
calendar_known year found t s stands sound finds =
    calendar_kept year found t s stands.entries.days sound finds

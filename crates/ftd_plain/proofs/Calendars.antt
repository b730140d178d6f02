-- A calendar of two years, cut after the days of the first.
use Rattle.std.proofs.Common.{◌≡◌, ◌≢◌, ◌⊎◌, inl, inr, ℕ, ◌+◌, ◌-◌, ◌<◌, ◌≤◌, List, [], ◌∷◌, ◌++◌}
use Rattle.std.proofs.Common.{length, take, drop, get_or, Bool, true, false, cond, refl, sym, ap}
use Rattle.std.proofs.Common.{◌∙◌, arith, length-take, length-drop, get_or-take, get_or-drop}
use Rattle.std.specs.Prelude.{All, ◌==◌, ◌↔◌, IsErrOf, Result, Err, count_by}
use Rattle.std.specs.List.{prefix_len}
use Rattle.std.specs.List.Sorted.{IsStrictlyIncreasing}
use Rattle.std.proofs.lemmas.Bool.{cases_order, false≢true, cases_lt}
use Rattle.std.proofs.lemmas.Bool.Decides.{nat_tests}
use Rattle.std.proofs.lemmas.List.{append-nil}
use Rattle.std.proofs.lemmas.List.Elements.{All-cons, All-nil, All-head, All-tail}
use Rattle.std.proofs.lemmas.List.Sums.{prefix_len-le-length, prefix_len_passes, prefix_len_stops}
use Rattle.std.proofs.lemmas.List.Sums.{sum_by-cons, sum_by-take-drop}
use Rattle.std.proofs.lemmas.Map.Keys.{below_from_sorted, sorted_from_strictly_increasing}
use Rattle.ftd_days.specs.Calendar.{year_of}
use Rattle.ftd_days.specs.Holidays.{YearDays, MayAdd, holidays_of}
use Rattle.ftd_days.proofs.Months.{early_year, year_later}
use Rattle.ftd_days.specs.declared.holidays.CalendarFault.{CalendarFault}
use Rattle.ftd_days.specs.declared.holidays.CalendarFault.TheVariants as calendar
use Rattle.ftd_plain.specs.Faults.{plain_fault}
use Rattle.ftd_plain.specs.Plain.{IsCalendar}
use Rattle.ftd_plain.specs.Taking.{CalendarFails}

abbrev of_year : ℕ → ℕ → Bool
of_year year day = year_of day == year

abbrev first_days : ℕ → List ℕ → ℕ
first_days year days = prefix_len (of_year year) days

is_year : (year day : ℕ) → of_year year day ≡ true → year_of day ≡ year
is_year year day e = grind (arith, nat_tests)

year_is : (year day : ℕ) → year_of day ≡ year → of_year year day ≡ true
year_is year day e = grind (arith, nat_tests)

not_year : (year day : ℕ) → year_of day ≢ year → of_year year day ≡ false
not_year year day n = grind (arith, nat_tests)

-- ---- counting
count_all : (year : ℕ) (days : List ℕ) → All (λ day. year_of day ≡ year) days
    → count_by (of_year year) days ≡ length days
count_all year [] all = refl
count_all year (d ∷ days) all =
    let here = year_is year d (All-head (λ day. year_of day ≡ year) d days all) in
    let rest = count_all year days (All-tail (λ day. year_of day ≡ year) d days all) in
    let sum = sum_by-cons (λ day. cond (of_year year day) 1 0) d days in
    let one : cond {A = ℕ} (of_year year d) 1 0 ≡ 1 = rw here refl in
    omega arith

count_other : (year other : ℕ) (days : List ℕ) → other ≢ year
    → All (λ day. year_of day ≡ other) days → count_by (of_year year) days ≡ 0
count_other year other [] n all = refl
count_other year other (d ∷ days) n all =
    let not = not_year year d (λ e. n (sym (All-head (λ day. year_of day ≡ other) d days all)
    ∙ e)) in
    let rest = count_other year other days n (All-tail (λ day. year_of day ≡ other) d days all) in
    let sum = sum_by-cons (λ day. cond (of_year year day) 1 0) d days in
    let none : cond {A = ℕ} (of_year year d) 1 0 ≡ 0 = rw not refl in
    omega arith

-- ---- where the days are cut
front_year : (year : ℕ) (days : List ℕ) → All (λ day. year_of day ≡ year)
    (take (first_days year days) days)
front_year year days k d within =
    let long = length-take (first_days year days) days in
    let short : k < first_days year days = omega arith in
    rw (get_or-take (first_days year days) days k d short)
    (is_year year (get_or days k d) (prefix_len_passes (of_year year) days k d short))

not_before : (days : List ℕ) (i j d : ℕ) → IsStrictlyIncreasing days → i ≤ j → j < length days
    → get_or days i d ≤ get_or days j d
not_before days i j d rising before within =
    elim (cases_order i j) [
      | inl same ↦ rw same (omega arith)
      | inr (inl less) ↦
          (let below = below_from_sorted days i j d (sorted_from_strictly_increasing days rising)
          less within in omega arith)
      | inr (inr more) ↦ absurd (omega arith)
    ]

back_year : (year : ℕ) (days : List ℕ) → year ≤ 2098 → IsStrictlyIncreasing days
    → All (λ day. (year_of day ≡ year) ⊎ (year_of day ≡ year + 1)) days
    → All (λ day. year_of day ≡ year + 1) (drop (first_days year days) days)
back_year year days late rising in_years k d within =
    let n = first_days year days in
    let long = length-drop n days in
    let at : n < length days = omega arith in
    let stop = prefix_len_stops (of_year year) days d at in
    let first : year_of (get_or days n d) ≡ year + 1 =
    elim (in_years n d at) [
      | inl same ↦
          absurd (false≢true (sym stop ∙ year_is year (get_or days n d) same))
      | inr next ↦ next
    ] in
    let order = not_before days n (n + k) d rising (omega arith) (omega arith) in
    let known : year_of (get_or days (n + k) d) ≤ 2099 =
    elim (in_years (n + k) d (omega arith)) [ inl same ↦ omega arith | inr next ↦ omega arith ] in
    let early = early_year (get_or days (n + k) d) known in
    let later = year_later (get_or days n d) (get_or days (n + k) d) order (omega arith) in
    rw (get_or-drop n days k d)
    (elim (in_years (n + k) d (omega arith)) [ inl same ↦ absurd (omega arith) | inr next ↦ next ])

front_rising : (n : ℕ) (days : List ℕ) → IsStrictlyIncreasing days
    → IsStrictlyIncreasing (take n days)
front_rising n days rising k within =
    let long = length-take n days in
    let first : k < n = omega arith in
    let second : k + 1 < n = omega arith in
    let a = get_or-take n days k 0 first in
    let b = get_or-take n days (k + 1) 0 second in
    let up = rising k (omega arith) in
    omega arith

back_rising : (n : ℕ) (days : List ℕ) → IsStrictlyIncreasing days
    → IsStrictlyIncreasing (drop n days)
back_rising n days rising k within =
    let long = length-drop n days in
    let a = get_or-drop n days k 0 in
    let b = get_or-drop n days (k + 1) 0 in
    let same : n + (k + 1) ≡ (n + k) + 1 = omega arith in
    let c = rw same at b in
    let up = rising (n + k) (omega arith) in
    omega arith

-- ---- a calendar is one of each year
abbrev given_days : ℕ → List ℕ → YearDays
given_days year days = record { year = year; days = days }

pub this_year : (year : ℕ) (days : List ℕ) → 2001 ≤ year → year ≤ 2098 → IsCalendar year days
    → MayAdd [] year (take (first_days year days) days)
this_year year days early late c =
    let all = front_year year days in
    let count = count_all year (take (first_days year days) days) all in
    let both = sum_by-take-drop (λ day. cond (of_year year day) 1 0) days (first_days year days) in
    let few = c.few in
    record {
      is_year = record { from = early; to = omega arith; in_year = all; few = omega arith };
      is_new = All-nil (λ (g : YearDays). g.year ≢ year);
      rising = front_rising (first_days year days) days c.rising;
    }

pub next_year : (year : ℕ) (days front : List ℕ) → 2001 ≤ year → year ≤ 2098 → IsCalendar year days
    → MayAdd ([] ++ given_days year front ∷ []) (year + 1) (drop (first_days year days) days)
next_year year days front early late c =
    let all = back_year year days late c.rising c.in_years in
    let count = count_all (year + 1) (drop (first_days year days) days) all in
    let both = sum_by-take-drop (λ day. cond (of_year (year + 1) day) 1 0) days
    (first_days year days) in
    let few = c.few_next in
    record {
      is_year = record { from = omega arith; to = omega arith; in_year = all; few = omega arith };
      is_new = All-cons (λ (g : YearDays). g.year ≢ year + 1) (given_days year front) []
          (λ (e : year ≡ year + 1). absurd (omega arith))
          (All-nil (λ (g : YearDays). g.year ≢ year + 1));
      rising = back_rising (first_days year days) days c.rising;
    }

-- ---- and the other way round
whole_rising : (year : ℕ) (days : List ℕ) → year ≤ 2098
    → IsStrictlyIncreasing (take (first_days year days) days)
    → IsStrictlyIncreasing (drop (first_days year days) days)
    → All (λ day. year_of day ≡ year + 1) (drop (first_days year days) days)
    → IsStrictlyIncreasing days
whole_rising year days late front back after k within =
    let n = first_days year days in
    let front_long = length-take n days in
    let back_long = length-drop n days in
    let short = prefix_len-le-length (of_year year) days in
    elim (cases_order (k + 1) n) [
      | inl cut ↦
          (let this = is_year year (get_or days k 0) (prefix_len_passes (of_year year) days k 0
          (omega arith)) in
          let at = get_or-drop n days 0 0 in
          let zero_more : n + 0 ≡ k + 1 = omega arith in
          let next_day = rw zero_more at at in
          let next : year_of (get_or days (k + 1) 0) ≡ year + 1 = sym (ap (λ d. year_of d) next_day)
          ∙ after 0 0 (omega arith) in
          elim (cases_lt (get_or days k 0) (get_or days (k + 1) 0)) [
            | inl less ↦ less
            | inr not ↦
                absurd
                (let early = early_year (get_or days k 0) (omega arith) in
                let later = year_later (get_or days (k + 1) 0) (get_or days k 0) not
                (omega arith) in
                omega arith)
          ])
      | inr (inl inside) ↦
          (let first : k < n = omega arith in
          let a = get_or-take n days k 0 first in
          let b = get_or-take n days (k + 1) 0 inside in
          let up = front k (omega arith) in
          omega arith)
      | inr (inr past) ↦
          (let a = get_or-drop n days (k - n) 0 in
          let b = get_or-drop n days ((k - n) + 1) 0 in
          let first : n + (k - n) ≡ k = omega arith in
          let second : n + ((k - n) + 1) ≡ k + 1 = omega arith in
          let c = rw first at a in
          let d = rw second at b in
          let up = back (k - n) (omega arith) in
          omega arith)
    ]

whole_years : (year : ℕ) (days : List ℕ) → All (λ day. year_of day ≡ year + 1)
    (drop (first_days year days) days)
    → All (λ day. (year_of day ≡ year) ⊎ (year_of day ≡ year + 1)) days
whole_years year days after k d within =
    let n = first_days year days in
    let long = length-drop n days in
    elim (cases_lt k n) [
      | inl first ↦
          inl (is_year year (get_or days k d) (prefix_len_passes (of_year year) days k d first))
      | inr past ↦
          (let at = get_or-drop n days (k - n) d in
          let same : n + (k - n) ≡ k = omega arith in
          let here = rw same at at in
          inr (sym (ap (λ z. year_of z) here) ∙ after (k - n) d (omega arith)))
    ]

pub both_years : (year : ℕ) (days : List ℕ) (given : List YearDays) → year ≤ 2098
    → MayAdd [] year (take (first_days year days) days) → MayAdd given (year + 1)
    (drop (first_days year days) days) → IsCalendar year days
both_years year days given late this next =
    let front = take (first_days year days) days in
    let back = drop (first_days year days) days in
    let this_few = this.is_year.few in
    let next_few = next.is_year.few in
    let in_front = count_all year front (front_year year days) in
    let not_back = count_other year (year + 1) back (λ e. absurd (omega arith))
    next.is_year.in_year in
    let in_back = count_all (year + 1) back next.is_year.in_year in
    let not_front = count_other (year + 1) year front (λ e. absurd (omega arith))
    (front_year year days) in
    let both = sum_by-take-drop (λ day. cond (of_year year day) 1 0) days (first_days year days) in
    let both_next = sum_by-take-drop (λ day. cond (of_year (year + 1) day) 1 0) days
    (first_days year days) in
    record {
      rising = whole_rising year days late this.rising next.rising next.is_year.in_year;
      in_years = whole_years year days next.is_year.in_year;
      few = omega arith;
      few_next = omega arith;
    }

-- the holidays of both years
pub both_days : (year other : ℕ) (front back : List ℕ) (one both : List YearDays)
    → one ≡ [] ++ given_days year front ∷ [] → both ≡ one ++ given_days other back ∷ []
    → holidays_of both ≡ front ++ back
both_days year other front back one both e f = ap (λ g. holidays_of g)
    (f ∙ ap (λ g. g ++ given_days other back ∷ []) e) ∙ ap (λ days. front ++ days) (append-nil back)

-- ---- the faults
pub calendar_fault : (year : ℕ) (days holidays : List ℕ) (given : List YearDays) (one : ℕ)
    (r : Result (Unit {0}) CalendarFault) (f : CalendarFault)
    → (IsErrOf r calendar.BadCalendar ↔ (MayAdd given one days → ⊥)) → r ≡ Err f
    → (IsCalendar year holidays → MayAdd given one days) → CalendarFails year holidays
    (plain_fault f)
calendar_fault year days holidays given one r calendar.BadCalendar bad was may =
    inr (refl, λ c. bad.0 was (may c))
calendar_fault year days holidays given one r calendar.Memory bad was may = inl refl

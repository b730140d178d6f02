-- No year has more than 60 holidays, those of its calendar and those added to it.
use Rattle.std.proofs.Common.{◌≡◌, ◌∙◌, inl, inr, refl, sym, ap, subst, ℕ, ◌+◌, ◌<◌, ◌≤◌, ◌==◌}
use Rattle.std.proofs.Common.{◌&&◌, Bool, true, false, cond, List, [], ◌∷◌, ◌++◌, length, Option}
use Rattle.std.proofs.Common.{None, Some, arith, append_assoc, length-append}
use Rattle.std.specs.Prelude.{find, option_map, nat_le, nat_lt, count_by}
use Rattle.std.specs.List.{list_all}
use Rattle.std.proofs.lemmas.Bool.{true≢false, eqb-true, leb-true, ltb-true, and_parts}
use Rattle.std.proofs.lemmas.List.Sums.{sum_by-append, sum_by-cons, count_by-le-length}
use Rattle.std.proofs.lemmas.List.Sums.{length-filter}
use Rattle.ftd_days.specs.Calendar.{year_of}
use Rattle.ftd_days.specs.Holidays.{YearDays, holidays_of, AreFew}
use Rattle.ftd_days.proofs.Among.{few_among}
use Rattle.ftd_rules.specs.Lists.{Has}
use Rattle.ftd_machine.specs.Limits.{is_calendar, are_rising}
use Rattle.ftd_machine.specs.State.{State, all_days, days_of, calendar_at, is_given, added_in}
use Rattle.ftd_machine.specs.State.{holidays, is_in_force}
use Rattle.ftd_machine.specs.Requests.{days_of_year}
use Rattle.ftd_machine.specs.Sound.{AreDistinct, year_of_calendar}
use Rattle.ftd_machine.proofs.Keeping.{same_key, is_year}

abbrev pub lies_in : ℕ → ℕ → Bool
lies_in year day = year_of day == year

abbrev pub count : ℕ → List ℕ → ℕ
count year days = count_by (lies_in year) days

pub count_append : (year : ℕ) (xs ys : List ℕ)
    → count year (xs ++ ys) ≡ count year xs + count year ys
count_append year xs ys = sum_by-append (λ d. cond (lies_in year d) 1 0) xs ys

abbrev pub one_if : Bool → ℕ
one_if b = cond b 1 0

-- days of another year
count_off : (year : ℕ) (xs : List ℕ) → ((d : ℕ) → Has xs d → lies_in year d ≡ false)
    → count year xs ≡ 0
count_off year [] off = refl
count_off year (d ∷ xs) off =
    let here : one_if (lies_in year d) ≡ 0 = ap one_if (off d (inl refl)) in
    let rest : count year xs ≡ 0 = count_off year xs (λ e has. off e (inr has)) in
    let cons : count year (d ∷ xs) ≡ one_if (lies_in year d) + count year xs =
    sum_by-cons (λ e. one_if (lies_in year e)) d xs in
    omega arith

other_year : (a b : ℕ) (c : Bool) → (a == b) ≡ c → (a ≡ b → ⊥) → c ≡ false
other_year a b true e other = absurd (other (eqb-true a b e))
other_year a b false e other = refl

-- ---- calendars

abbrev pub Fits : YearDays → Type 0
Fits c = is_calendar c.year c.days ≡ true

each_passes : (test : ℕ → Bool) (xs : List ℕ) (d : ℕ) → list_all test xs ≡ true → Has xs d
    → test d ≡ true
each_passes test [] d e has = absurd has
each_passes test (x ∷ xs) d e (inl is) = ap test is ∙ (and_parts (test x) (list_all test xs) e).0
each_passes test (x ∷ xs) d e (inr has) = each_passes test xs d
    (and_parts (test x) (list_all test xs) e).1 has

fits_short : (year : ℕ) (days : List ℕ) → is_calendar year days ≡ true → length days ≤ 60
fits_short year days fits = leb-true (length days) 60
    (and_parts (nat_le (length days) 60) (list_all (lies_in year) days && are_rising days) fits).0

pub fits_year : (year : ℕ) (days : List ℕ) (d : ℕ) → is_calendar year days ≡ true → Has days d
    → year_of d ≡ year
fits_year year days d fits has =
    eqb-true (year_of d) year (each_passes (lies_in year) days d
    (and_parts (list_all (lies_in year) days) (are_rising days)
    (and_parts (nat_le (length days) 60) (list_all (lies_in year) days && are_rising days)
    fits).1).0
    has)

-- a calendar of another year has no day of the year
calendar_off : (year : ℕ) (c : YearDays) → Fits c → (c.year ≡ year → ⊥) → count year c.days ≡ 0
calendar_off year c fits other =
    count_off year c.days (λ d has. other_year (year_of d) year (lies_in year d) refl
    (λ is. other (sym (fits_year c.year c.days d fits has) ∙ is)))

calendars_off : (year : ℕ) (given : List YearDays) → ((c : YearDays) → Has given c → Fits c)
    → ((c : YearDays) → Has given c → c.year ≡ year → ⊥) → count year (holidays_of given) ≡ 0
calendars_off year [] fits other = refl
calendars_off year (c ∷ given) fits other =
    let here = calendar_off year c (fits c (inl refl)) (other c (inl refl)) in
    let rest = calendars_off year given (λ g has. fits g (inr has)) (λ g has. other g (inr has)) in
    let both = count_append year c.days (holidays_of given) in
    omega arith

abbrev size : Option (List ℕ) → ℕ
size None = 0
size (Some days) = length days

sized : (year : ℕ) (c : YearDays) (given : List YearDays) (b : Bool) → (c.year == year) ≡ b → Fits c
    → ((g : YearDays) → Has given g → Fits g)
    → ((later : YearDays) → Has given later → later.year ≡ c.year → ⊥)
    → count year (holidays_of given) ≤ size (option_map days_of (find (is_year year) given))
    → count year (holidays_of (c ∷ given)) ≤ size
    (option_map days_of (cond b (Some c) (find (is_year year) given)))
sized year c given true e fits all apart later =
    let is : c.year ≡ year = eqb-true c.year year e in
    let none = calendars_off year given all (λ g has same. apart g has (same ∙ sym is)) in
    let both = count_append year c.days (holidays_of given) in
    let short = count_by-le-length (lies_in year) c.days in
    omega arith
sized year c given false e fits all apart later =
    let off = calendar_off year c fits
    (λ is. true≢false (sym (ap (λ n. n == year) is ∙ same_key year) ∙ e)) in
    let both = count_append year c.days (holidays_of given) in
    omega arith

-- the calendars have no more days of a year than its calendar
count_given : (year : ℕ) (given : List YearDays) → AreDistinct year_of_calendar given
    → ((c : YearDays) → Has given c → Fits c)
    → count year (holidays_of given) ≤ size (option_map days_of (find (is_year year) given))
count_given year [] apart fits = omega arith
count_given year (c ∷ given) apart fits =
    sized year c given (c.year == year) refl (fits c (inl refl)) (λ g has. fits g (inr has)) apart.0
    (count_given year given apart.1 (λ g has. fits g (inr has)))

pub given_append : (xs ys : List YearDays)
    → holidays_of (xs ++ ys) ≡ holidays_of xs ++ holidays_of ys
given_append [] ys = refl
given_append (c ∷ xs) ys = ap (λ zs. c.days ++ zs) (given_append xs ys)
    ∙ sym (append_assoc c.days (holidays_of xs) (holidays_of ys))

-- ---- one more

module _ (s : State) (few : AreFew (all_days s)) where
  pub few_added : (day : ℕ) → AreDistinct year_of_calendar s.calendars
      → ((c : YearDays) → Has s.calendars c → Fits c)
      → nat_lt (length (days_of_year (calendar_at s (year_of day)) (added_in s (year_of day)))) 60
      ≡ true
      → AreFew (all_days (record s { added_days = s.added_days ++ day ∷ [] }))
  few_added day apart fits room year = one_more (lies_in year day) refl
    where
      sizes : (o : Option (List ℕ)) (added : List ℕ) → length (days_of_year o added)
          ≡ size o + length added
      sizes None added = omega arith
      sizes (Some given) added = length-append given added

      counted : count year (holidays_of s.calendars ++ (s.added_days ++ day ∷ [])) ≡ count year
          (holidays_of s.calendars) + (count year s.added_days + count year (day ∷ []))
      counted = count_append year (holidays_of s.calendars) (s.added_days ++ day ∷ [])
          ∙ ap (λ n. count year (holidays_of s.calendars) + n)
          (count_append year s.added_days (day ∷ []))

      before : count year (holidays_of s.calendars) + count year s.added_days ≤ 60
      before = let both = count_append year (holidays_of s.calendars) s.added_days in
          let all = few year in omega arith

      one_more : (b : Bool) → lies_in year day ≡ b
          → count year (holidays_of s.calendars ++ (s.added_days ++ day ∷ [])) ≤ 60
      one_more true e =
          let is : year_of day ≡ year = eqb-true (year_of day) year e in
          let space : length (days_of_year (calendar_at s year) (added_in s year)) < 60 =
          ltb-true _ 60
          (subst (λ y. nat_lt (length (days_of_year (calendar_at s y) (added_in s y))) 60 ≡ true) is
          room) in
          let sum = sizes (calendar_at s year) (added_in s year) in
          let given = count_given year s.calendars apart fits in
          let added : length (added_in s year) ≡ count year s.added_days =
          length-filter (lies_in year) s.added_days in
          let one : count year (day ∷ []) ≤ 1 = count_by-le-length (lies_in year) (day ∷ []) in
          let all = counted in
          omega arith
      one_more false e =
          let none : count year (day ∷ []) ≡ 0 = count_off year (day ∷ [])
          (λ d has. elim has [
            | inl is ↦ ap (lies_in year) is ∙ e
            | inr nowhere ↦ absurd nowhere
          ]) in
          let all = counted in
          let was = before in
          omega arith

  pub few_given : (new : ℕ) (days : List ℕ) → is_calendar new days ≡ true
      → ((c : YearDays) → Has s.calendars c → Fits c)
      → ((c : YearDays) → Has s.calendars c → c.year ≡ new → ⊥)
      → ((d : ℕ) → Has s.added_days d → is_given s (year_of d) ≡ true) → is_given s new ≡ false
      → AreFew (all_days
      (record s { calendars = s.calendars ++ record { year = new; days = days } ∷ [] }))
  few_given new days fits all fresh added absent year = one_more (new == year) refl
    where
      c : YearDays
      c = record { year = new; days = days }

      counted : count year (holidays_of (s.calendars ++ record { year = new; days = days } ∷ [])
          ++ s.added_days)
          ≡ (count year (holidays_of s.calendars) + (count year days + count year [])) + count year
          s.added_days
      counted =
          count_append year (holidays_of (s.calendars ++ record { year = new; days = days } ∷ []))
          s.added_days
          ∙ ap (λ xs. count year xs + count year s.added_days)
          (given_append s.calendars (record { year = new; days = days } ∷ []))
          ∙ ap (λ n. n + count year s.added_days) (count_append year (holidays_of s.calendars)
          (days ++ []) ∙ ap (λ n. count year (holidays_of s.calendars) + n)
          (count_append year days []))

      one_more : (b : Bool) → (new == year) ≡ b
          → count year (holidays_of (s.calendars ++ record { year = new; days = days } ∷ [])
          ++ s.added_days) ≤ 60
      one_more true e =
          let is : new ≡ year = eqb-true new year e in
          let none = calendars_off year s.calendars all
          (λ g has same. fresh g has (same ∙ sym is)) in
          let nowhere = count_off year s.added_days
          (λ d has. other_year (year_of d) year (lies_in year d) refl
          (λ same. true≢false (sym (added d has) ∙ ap (is_given s) (same ∙ sym is) ∙ absent))) in
          let short = fits_short new days fits in
          let most = count_by-le-length (lies_in year) days in
          let sum = counted in
          let empty : count year [] ≡ 0 = refl in
          omega arith
      one_more false e =
          let off : count year days ≡ 0 = calendar_off year (record { year = new; days = days })
          fits (λ is. true≢false (sym (ap (λ n. n == year) is ∙ same_key year) ∙ e)) in
          let both = count_append year (holidays_of s.calendars) s.added_days in
          let was = few year in
          let sum = counted in
          let empty : count year [] ≡ 0 = refl in
          omega arith

-- so of those in force
pub few_in_force : (s : State) → AreFew (all_days s) → AreFew (holidays s)
few_in_force s few = few_among (is_in_force s.changed_days) (all_days s) few

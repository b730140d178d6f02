-- The state as if what is in force had been told at first is sound where the state is.
use Rattle.std.proofs.Common.{◌≡◌, ◌∙◌, inl, inr, refl, sym, ap, subst, ℕ, ◌+◌, Bool, true}
use Rattle.std.proofs.Common.{List, [], ◌∷◌, ◌++◌, map, filter, length}
use Rattle.std.proofs.Common.{arith, ◌&&◌}
use Rattle.std.specs.Prelude.{option_map, is_some, nat_le, nat_lt, ◌==◌}
use Rattle.std.specs.List.{list_all}
use Rattle.std.proofs.lemmas.Bool.{cases_Bool, and_parts, leb-true, le-leb, lt-ltb}
use Rattle.std.proofs.lemmas.List.Elements.{filter-append}
use Rattle.std.proofs.lemmas.List.Sums.{length-filter, count_by-le-length}
use Rattle.ftd_days.specs.Calendar.{year_of}
use Rattle.ftd_days.specs.declared.cents.Cents.{Cents}
use Rattle.ftd_days.specs.declared.limits.TheConstants.{LAST_OPEN_YEAR, MOST_HOLIDAYS}
use Rattle.ftd_days.specs.Holidays.{YearDays, AreFew, calendar_of, holidays_of}
use Rattle.ftd_rules.specs.Accounts.{is_account_name}
use Rattle.ftd_rules.specs.Lists.{Has, KeysRise}
use Rattle.ftd_rules.proofs.Members.{has_mapped}
use Rattle.ftd_machine.specs.State.{State, Enrolled, Entry, Move, DayChange, entries_of}
use Rattle.ftd_machine.specs.State.{holidays, all_days, is_given, is_in_force, moves_of}
use Rattle.ftd_machine.specs.State.{is_of, is_move_of, beginning_of, has_key, content_of, all_at}
use Rattle.ftd_machine.specs.State.{latest, first_beginning, days_of}
use Rattle.ftd_machine.specs.History.{HasLookback}
use Rattle.ftd_machine.specs.Checks.{meets}
use Rattle.ftd_machine.specs.Limits.{is_calendar, is_amount, are_rising, can_have_calendar}
use Rattle.ftd_machine.specs.Requests.{has_started, has_started_in}
use Rattle.ftd_machine.specs.Sound.{IsSound, AreDistinct, IsReportable, name_of, place_of}
use Rattle.ftd_machine.specs.Sound.{year_of_calendar}
use Rattle.ftd_machine.specs.declared.entries.Beginning.{Beginning}
use Rattle.ftd_machine.specs.declared.entries.ReturnPeriod.{ReturnPeriod}
use Rattle.ftd_machine.specs.declared.entries.ReturnPeriod.TheVariants.{Quarter, Year}
use Rattle.ftd_machine.proofs.DaysOnce.{days_rise, itself}
use Rattle.ftd_machine.proofs.Few.{few_in_force}
use Rattle.ftd_machine.proofs.Found.{filter_apart}
use Rattle.ftd_machine.proofs.Members.{has_filtered}
use Rattle.ftd_cases.specs.ToldRight.{enrolled_right, reported_right, given_right, told_right}
use Rattle.ftd_cases.proofs.SameFigures.{lookback_to}
use Rattle.ftd_cases.proofs.Listing.{distinct_map}
use Rattle.ftd_cases.proofs.RightAtFirst.{account_same, given_days_right, is_so, right_in_force}

-- ---- lists

rise_filtered : (test : ℕ → Bool) (xs : List ℕ) → KeysRise itself xs
    → KeysRise itself (filter test xs)
rise_filtered test [] rise = tt
rise_filtered test (x ∷ xs) rise =
    let rest = rise_filtered test xs rise.1 in
    elim (cases_Bool (test x)) [
      | inl kept ↦ rw kept ((λ y has. rise.0 y (has_filtered test xs y has).0), rest)
      | inr left ↦ rw left rest
    ]

rising : (xs : List ℕ) → KeysRise itself xs → are_rising xs ≡ true
rising [] rise = refl
rising (x ∷ []) rise = refl
rising (x ∷ y ∷ ys) rise =
    let first : nat_lt x y ≡ true = lt-ltb x y (rise.0 y (inl refl)) in
    let rest : are_rising (y ∷ ys) ≡ true = rising (y ∷ ys) rise.1 in
    rw (first, rest) refl

all_filtered : (each test : ℕ → Bool) (xs : List ℕ) → list_all each xs ≡ true
    → list_all each (filter test xs) ≡ true
all_filtered each test [] all = refl
all_filtered each test (x ∷ xs) all =
    let parts = and_parts (each x) (list_all each xs) all in
    let rest = all_filtered each test xs parts.1 in
    elim (cases_Bool (test x)) [
      | inl kept ↦ rw (kept, parts.0, rest) refl
      | inr left ↦ rw left rest
    ]

-- what is so of the first and of each correction is so of the last
latest_is : {X : Type 0} (P : X → Type 0) (first : X) (later : List X) → P first
    → ((x : X) → Has later x → P x) → P (latest first later)
latest_is P first [] is each = is
latest_is P first (x ∷ xs) is each =
    latest_is P x xs (each x (inl refl)) (λ y has. each y (inr has))

-- ---- calendars

-- a calendar without some of its days is one
calendar_filtered : (test : ℕ → Bool) (year : ℕ) (days : List ℕ) → is_calendar year days ≡ true
    → is_calendar year (filter test days) ≡ true
calendar_filtered test year days is =
    let parts = and_parts (nat_le (length days) MOST_HOLIDAYS)
    (list_all (λ day. year_of day == year) days && are_rising days) is in
    let rest = and_parts (list_all (λ day. year_of day == year) days) (are_rising days) parts.1 in
    let few = leb-true (length days) MOST_HOLIDAYS parts.0 in
    let long = length-filter test days in
    let less = count_by-le-length test days in
    let short : nat_le (length (filter test days)) MOST_HOLIDAYS ≡ true =
    le-leb (length (filter test days)) MOST_HOLIDAYS (omega arith) in
    let in_year = all_filtered (λ day. year_of day == year) test days rest.0 in
    let rise = rising (filter test days) (rise_filtered test days (days_rise days rest.1)) in
    rw (short, in_year, rise) refl

-- the same years are given
given_same : (changes : List DayChange) (year : ℕ) (given : List YearDays)
    → is_some (option_map days_of (calendar_of (map (given_right changes) given) year))
    ≡ is_some (option_map days_of (calendar_of given year))
given_same changes year [] = refl
given_same changes year (g ∷ given) = elim (cases_Bool (g.year == year)) [
  | inl here ↦ rw here refl
  | inr other ↦ rw other (given_same changes year given)
]

-- the days that were given and added, told right, are the holidays
days_are : (s : State) → all_days (told_right s) ≡ holidays s
days_are s =
    let test = is_in_force s.changed_days in
    ap (λ days. days ++ filter test s.added_days) (given_days_right s.changed_days s.calendars)
    ∙ sym (filter-append test (holidays_of s.calendars) s.added_days)

-- ---- amounts and first days

amount_right : (corrected : List (Entry Cents)) (d : Entry Cents) → is_amount d.content ≡ true
    → ((e : Entry Cents) → Has corrected e → is_amount e.content ≡ true)
    → is_amount (reported_right corrected d).content ≡ true
amount_right corrected d first each =
    let own = filter (is_of d.name) corrected in
    latest_is (λ (c : Cents). is_amount c ≡ true) d.content (all_at d.key own) first (λ c has.
    (let from = has_mapped content_of (filter (has_key d.key) own) c has in
    let keyed = has_filtered (has_key d.key) own from.0 from.1 in
    let named = has_filtered (is_of d.name) corrected from.0 keyed.0 in
    subst (λ (x : Cents). is_amount x ≡ true) (sym from.2) (each from.0 named.0)))

start_right : (moved : List Move) (d : Enrolled)
    → nat_le (year_of d.account.start) LAST_OPEN_YEAR ≡ true
    → ((m : Move) → Has moved m → nat_le (year_of m.beginning.start) LAST_OPEN_YEAR ≡ true)
    → nat_le (year_of (enrolled_right moved d).account.start) LAST_OPEN_YEAR ≡ true
start_right moved d first each =
    latest_is (λ (b : Beginning). nat_le (year_of b.start) LAST_OPEN_YEAR ≡ true)
    (first_beginning d.account) (moves_of d.name moved) first (λ b has.
    (let from = has_mapped beginning_of (filter (is_move_of d.name) moved) b has in
    let named = has_filtered (is_move_of d.name) moved from.0 from.1 in
    subst (λ (x : Beginning). nat_le (year_of x.start) LAST_OPEN_YEAR ≡ true) (sym from.2)
    (each from.0 named.0)))

-- ---- the state

module _ (s : State) (sound : IsSound s) where
  abbrev right : State
  right = told_right s

  account_is : (name : List ℕ) → (entries_of right name).account ≡ (entries_of s name).account
  account_is name = account_same s right (right_in_force s) name

  reportable : (period : ℕ → ReturnPeriod) (corrected es : List (Entry Cents))
      → ((e : Entry Cents) → Has es e
      → IsReportable (entries_of s e.name).account (period e.key))
      → (e : Entry Cents) → Has (map (reported_right corrected) es) e
      → IsReportable (entries_of right e.name).account (period e.key)
  reportable period corrected es each e has =
      let from = has_mapped (reported_right corrected) es e has in
      let d = from.0 in
      subst (λ (x : Entry Cents). IsReportable (entries_of right x.name).account (period x.key))
      (sym from.2)
      (subst (λ account. IsReportable account (period d.key)) (sym (account_is d.name))
      (each d from.1))

  amounts : (corrected es : List (Entry Cents))
      → ((e : Entry Cents) → Has es e → is_amount e.content ≡ true)
      → ((e : Entry Cents) → Has corrected e → is_amount e.content ≡ true)
      → (e : Entry Cents) → Has (map (reported_right corrected) es) e → is_amount e.content ≡ true
  amounts corrected es first each e has =
      let from = has_mapped (reported_right corrected) es e has in
      subst (λ (x : Entry Cents). is_amount x.content ≡ true) (sym from.2)
      (amount_right corrected from.0 (first from.0 from.1) each)

  given_is : (year : ℕ) → is_given right year ≡ is_given s year
  given_is year = given_same s.changed_days year s.calendars

  pub right_is_sound : IsSound right
  right_is_sound = record {
    accounts = distinct_map (enrolled_right s.moved) name_of name_of (λ x. refl) s.accounts
        sound.accounts;
    calendars = distinct_map (given_right s.changed_days) year_of_calendar year_of_calendar
        (λ x. refl) s.calendars sound.calendars;
    reported = distinct_map (reported_right s.corrected) place_of place_of (λ x. refl) s.reported
        sound.reported;
    reported_years = distinct_map (reported_right s.corrected_years) place_of place_of
        (λ x. refl) s.reported_years sound.reported_years;
    open_years = sound.open_years;
    runs = sound.runs;
    payments = sound.payments;
    are_calendars = λ c has.
        (let from = has_mapped (given_right s.changed_days) s.calendars c has in
        let is = sound.are_calendars from.0 from.1 in
        subst
        (λ (x : YearDays). (can_have_calendar x.year ≡ true) × (is_calendar x.year x.days ≡ true))
        (sym from.2)
        (is.0, calendar_filtered (is_in_force s.changed_days) from.0.year from.0.days is.1));
    opened = λ e has.
        (let is = sound.opened e has in
        (is.0, given_is e.key ∙ is.1, given_is (e.key + 1) ∙ is.2));
    enrolled = λ e has. ap is_some (account_is e.name) ∙ sound.enrolled e has;
    totals = λ e has.
        (let is = sound.totals e has in (
          is.0,
          is_so s right (right_in_force s) (λ own. HasLookback own e.key is.0) e.name
              (lookback_to (entries_of s e.name) (entries_of right e.name)
              ((right_in_force s).figures e.name) e.key is.0 is.1),
        ));
    in_turn = sound.in_turn;
    paydays = sound.paydays;
    paid_days = sound.paid_days;
    counts = sound.counts;
    run_numbers = sound.run_numbers;
    reported_amounts = amounts s.corrected s.reported sound.reported_amounts
        sound.corrected_amounts;
    year_amounts = amounts s.corrected_years s.reported_years sound.year_amounts
        sound.corrected_year_amounts;
    corrected_amounts = λ e has. absurd has;
    corrected_year_amounts = λ e has. absurd has;
    run_amounts = sound.run_amounts;
    paid_amounts = sound.paid_amounts;
    added_days = λ day has.
        given_is (year_of day)
        ∙ sound.added_days day
        (has_filtered (is_in_force s.changed_days) s.added_days day has).0;
    few = subst AreFew (sym (days_are s)) (few_in_force s sound.few);
    changed = λ c has. absurd has;
    days_once = subst (AreDistinct (λ (day : ℕ). day)) (sym (days_are s))
        (filter_apart (λ (day : ℕ). day) (is_in_force s.changed_days) (all_days s)
        sound.days_once);
    names = λ e has.
        (let from = has_mapped (enrolled_right s.moved) s.accounts e has in
        subst (λ (x : Enrolled). is_account_name x.name ≡ true) (sym from.2)
        (sound.names from.0 from.1));
    first_days = λ e has.
        (let from = has_mapped (enrolled_right s.moved) s.accounts e has in
        subst (λ (x : Enrolled). nat_le (year_of x.account.start) LAST_OPEN_YEAR ≡ true)
        (sym from.2)
        (start_right s.moved from.0 (sound.first_days from.0 from.1) sound.moved_days));
    moved_accounts = λ m has. absurd has;
    moved_days = λ m has. absurd has;
    quarters = reportable Quarter s.corrected s.reported sound.quarters;
    years = reportable Year s.corrected_years s.reported_years sound.years;
    corrected_quarters = λ e has. absurd has;
    corrected_years = λ e has. absurd has;
    opened_since = λ e has.
        ap (meets (has_started_in e.key)) (account_is e.name) ∙ sound.opened_since e has;
    posted_since = λ e has.
        ap (meets (has_started e.content.value.payday)) (account_is e.name)
        ∙ sound.posted_since e has;
    paid_since = λ e has.
        ap (meets (has_started e.content.value.for_day)) (account_is e.name)
        ∙ sound.paid_since e has;
    payment_numbers = sound.payment_numbers;
    paid_something = sound.paid_something;
    paid_in = sound.paid_in;
    move_counts = λ name. omega arith;
    change_counts = λ day. omega arith;
    quarter_counts = λ name quarter. omega arith;
    year_counts = λ name year. omega arith;
  }

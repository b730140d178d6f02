-- The requests of the journal of a sound state have values that can be written.
use Rattle.std.proofs.Common.{◌≡◌, ℕ, zero, suc, ◌+◌, ◌≤◌, ◌<◌, Bool, true, false, List, [], ◌∷◌}
use Rattle.std.proofs.Common.{◌++◌, length, map, inl, inr, refl, sym, ap, subst, ◌∙◌, arith}
use Rattle.std.specs.Prelude.{◌==◌, ◌&&◌, flat_map, filter, nat_le, nat_lt}
use Rattle.std.specs.List.{All, list_all}
use Rattle.std.proofs.lemmas.Bool.{and_parts, eqb-true, leb-true}
use Rattle.ftd_days.specs.Calendar.{quarter_year, year_of}
use Rattle.ftd_days.specs.Holidays.{YearDays}
use Rattle.ftd_days.specs.declared.cents.Cents.{Cents}
use Rattle.ftd_days.specs.declared.limits.TheConstants.{MOST_HOLIDAYS, QUARTERS}
use Rattle.ftd_days.proofs.Months.{day_in_years}
use Rattle.ftd_days.proofs.Spelling.{same_text}
use Rattle.ftd_rules.specs.Lists.{Has}
use Rattle.ftd_rules.specs.declared.TheConstants.{MOST_CENTS}
use Rattle.ftd_rules.proofs.Members.{has_mapped}
use Rattle.ftd_machine.specs.Journal.{account_enrolled, account_journal, calendar_given}
use Rattle.ftd_machine.specs.Journal.{corrections_from, day_changes, days_journal}
use Rattle.ftd_machine.specs.Journal.{holiday_added, in_order, is_account_before}
use Rattle.ftd_machine.specs.Journal.{is_calendar_before, journal, own_by_key, payment_made}
use Rattle.ftd_machine.specs.Journal.{run_posted, total_reported, void_if, year_opened}
use Rattle.ftd_machine.specs.Limits.{are_rising, is_amount, is_between, is_number}
use Rattle.ftd_machine.specs.Sound.{IsSound}
use Rattle.ftd_machine.specs.State.{Enrolled, Entry, State, all_at, all_days, beginning_of}
use Rattle.ftd_machine.specs.State.{changes_of, content_of, days_of, entries_of, has_key, is_given}
use Rattle.ftd_machine.specs.State.{is_move_of, is_of, is_open, moves_in}
use Rattle.ftd_machine.specs.declared.entries.ReturnPeriod.{ReturnPeriod}
use Rattle.ftd_machine.specs.declared.entries.ReturnPeriod.TheVariants.{Quarter, Year}
use Rattle.ftd_machine.specs.declared.limits.TheConstants.{MOST_NUMBER}
use Rattle.ftd_machine.specs.declared.requests.Correction.{Correction}
use Rattle.ftd_machine.specs.declared.requests.Correction.TheVariants as correction
use Rattle.ftd_machine.specs.declared.requests.Request.{Request}
use Rattle.ftd_machine.proofs.InOrder.{has_ordered}
use Rattle.ftd_machine.proofs.JournalAccount.{of_account}
use Rattle.ftd_machine.proofs.Members.{found_some, has_filtered, some_of}
use Rattle.ftd_replies.specs.LineLaws.{IsAmount, IsDay, IsName, IsNumber, IsPeriod, IsShort}
use Rattle.ftd_replies.specs.LineLaws.{IsWritable, IsWritableCorrection}

-- ---- each member of a list

-- this is so of each member
abbrev Each : {X : Type 0} → (X → Type 0) → List X → Type 0
Each {X} P xs = (x : X) → Has xs x → P x

-- it is so of each member of two lists, of what members are mapped to, and of one member more
each_append : {X : Type 0} (P : X → Type 0) (xs ys : List X) → Each P xs → Each P ys
    → Each P (xs ++ ys)
each_append P [] ys p q x has = q x has
each_append P (z ∷ xs) ys p q x (inl is) = p x (inl is)
each_append P (z ∷ xs) ys p q x (inr has) =
    each_append P xs ys (λ y h. p y (inr h)) q x has

each_mapped : {X Y : Type 0} (P : Y → Type 0) (f : X → Y) (xs : List X) → Each (λ x. P (f x)) xs
    → Each P (map f xs)
each_mapped P f xs p y has =
    let from = has_mapped f xs y has in subst P (sym from.2) (p from.0 from.1)

each_flat : {X Y : Type 0} (P : Y → Type 0) (f : X → List Y) (xs : List X)
    → Each (λ x. Each P (f x)) xs → Each P (flat_map f xs)
each_flat P f [] p = λ y has. absurd has
each_flat P f (z ∷ xs) p =
    each_append P (f z) (flat_map f xs) (p z (inl refl)) (each_flat P f xs (λ x h. p x (inr h)))

each_alone : {X : Type 0} (P : X → Type 0) (x : X) → P x → Each P (x ∷ [])
each_alone P x p y (inl is) = subst P (sym is) p
each_alone P x p y (inr none) = absurd none

each_more : {X : Type 0} (P : X → Type 0) (x : X) (xs : List X) → P x → Each P xs
    → Each P (x ∷ xs)
each_more P x xs p q y (inl is) = subst P (sym is) p
each_more P x xs p q y (inr has) = q y has

-- each passes a test that all pass
each_passes : {X : Type 0} (test : X → Bool) (xs : List X) → list_all test xs ≡ true
    → Each (λ x. test x ≡ true) xs
each_passes test [] e x has = absurd has
each_passes test (z ∷ xs) e x (inl is) = ap test is ∙ (and_parts (test z) (list_all test xs) e).0
each_passes test (z ∷ xs) e x (inr has) =
    each_passes test xs (and_parts (test z) (list_all test xs) e).1 x has

-- the same by place
all_each : {X : Type 0} (P : X → Type 0) (xs : List X) → Each P xs → All P xs
all_each P [] p k d l = absurd (omega arith)
all_each P (z ∷ xs) p zero d l = p z (inl refl)
all_each P (z ∷ xs) p (suc k) d l = all_each P xs (λ x h. p x (inr h)) k d (omega arith)

-- ---- requests that can be written

-- the request can be written, and its line is short
abbrev pub IsLined : Request → Type 0
IsLined asked = IsWritable asked × IsShort asked

-- a number that lies between two, an amount and a number that a request may name
within : (from to year : ℕ) → is_between from to year ≡ true → (from ≤ year) × (year ≤ to)
within from to year e =
    let parts = and_parts (nat_le from year) (nat_le year to) e in
    (leb-true from year parts.0, leb-true year to parts.1)

small_amount : (cents : Cents) → is_amount cents ≡ true → IsAmount cents
small_amount cents e = let most = leb-true cents.0 MOST_CENTS e in omega arith

small_number : (number : ℕ) → is_number number ≡ true → IsNumber number
small_number number e = let bounds = within 1 MOST_NUMBER number e in omega arith

-- a day of a year up to 2099
early_day : (day : ℕ) → year_of day ≤ 2099 → IsDay day
early_day day h = day_in_years day (omega arith)

-- corrections, numbered from this number on
each_correction : {X : Type 0} (of : X → Correction) (number : ℕ) (xs : List X)
    → Each (λ x. IsWritableCorrection (of x)) xs → number + length xs ≤ MOST_NUMBER + 1
    → Each IsLined (corrections_from number of xs)
each_correction of number [] p few = λ x has. absurd has
each_correction of number (z ∷ xs) p few =
    each_more IsLined _ (corrections_from (number + 1) of xs) ((omega arith, p z (inl refl)), tt)
    (each_correction of (number + 1) xs (λ x h. p x (inr h)) (omega arith))

-- a void, if there is one
void_alone : (voided : Bool) (asked : Request) → IsLined asked → Each IsLined (void_if voided asked)
void_alone true asked p = each_alone IsLined asked p
void_alone false asked p = λ x has. absurd has

-- ---- the values of a sound state

module _ (s : State) (sound : IsSound s) where
  -- a day of a year whose calendar is given
  given_day : (day : ℕ) → is_given s (year_of day) ≡ true → IsDay day
  given_day day given =
      let days = some_of _ given in
      let calendar = found_some days_of (λ g. g.year == year_of day) s.calendars days.0 days.1 in
      let bounds = within 2001 2099 calendar.0.year (sound.are_calendars calendar.0 calendar.1).0 in
      let year = eqb-true calendar.0.year (year_of day) calendar.2 in
      early_day day (omega arith)

  -- a day of a year that is open
  open_day : (name : List ℕ) (day : ℕ) → is_open (entries_of s name) (year_of day) ≡ true
      → IsDay day
  open_day name day opened =
      let content = some_of _ opened in
      let found = found_some content_of (has_key (year_of day)) (filter (is_of name) s.open_years)
      content.0 content.1 in
      let there = has_filtered (is_of name) s.open_years found.0 found.1 in
      let bounds = within 2001 2098 found.0.key (sound.opened found.0 there.0).0 in
      let year = eqb-true found.0.key (year_of day) found.2 in
      early_day day (omega arith)

  -- ---- calendars and holidays

  -- a calendar has few days, all of the calendar, and the number of its year is small
  calendar_parts : (c : YearDays) → Has s.calendars c
      → (length c.days ≤ MOST_HOLIDAYS) × Each IsDay c.days × IsNumber c.year
  calendar_parts c has =
      let known = sound.are_calendars c has in
      let bounds = within 2001 2099 c.year known.0 in
      let parts = and_parts (nat_le (length c.days) MOST_HOLIDAYS)
      (list_all (λ day. year_of day == c.year) c.days && are_rising c.days) known.1 in
      let in_year = (and_parts (list_all (λ day. year_of day == c.year) c.days)
      (are_rising c.days) parts.1).0 in (
        leb-true _ _ parts.0,
        λ day h.
            (let year = eqb-true (year_of day) c.year
            (each_passes (λ d. year_of d == c.year) c.days in_year day h) in
            early_day day (omega arith)),
        omega arith,
      )

  -- each holiday that was given or added is a day of the calendar
  each_day : Each IsDay (all_days s)
  each_day =
      each_append IsDay _ s.added_days
      (each_flat IsDay (λ (g : YearDays). g.days) s.calendars (λ c h. (calendar_parts c h).1))
      (λ day h. given_day day (sound.added_days day h))

  -- the requests that give calendars, that add holidays and that change them
  calendars_lined : Each IsLined (map calendar_given (in_order is_calendar_before s.calendars))
  calendars_lined =
      each_mapped IsLined calendar_given (in_order is_calendar_before s.calendars) (λ c h.
      (let parts = calendar_parts c (has_ordered is_calendar_before s.calendars c h) in
      ((parts.2, all_each IsDay c.days parts.1), parts.0)))

  added_lined : Each IsLined (map holiday_added (in_order nat_lt s.added_days))
  added_lined = each_mapped IsLined holiday_added (in_order nat_lt s.added_days) (λ day h.
      (given_day day (sound.added_days day (has_ordered nat_lt s.added_days day h)), tt))

  changes_lined : Each IsLined (flat_map (day_changes s) (in_order nat_lt (all_days s)))
  changes_lined = each_flat IsLined (day_changes s) (in_order nat_lt (all_days s)) (λ day h.
      each_correction (λ is_holiday. correction.Holiday day is_holiday) 1
      (changes_of day s.changed_days)
      (λ is_holiday there. each_day day (has_ordered nat_lt (all_days s) day h))
      (let count = sound.change_counts day in omega arith))

  -- all requests about days
  days_lined : Each IsLined (days_journal s)
  days_lined =
      each_append IsLined
      (map calendar_given (in_order is_calendar_before s.calendars)
      ++ map holiday_added (in_order nat_lt s.added_days))
      (flat_map (day_changes s) (in_order nat_lt (all_days s)))
      (each_append IsLined (map calendar_given (in_order is_calendar_before s.calendars))
      (map holiday_added (in_order nat_lt s.added_days)) calendars_lined added_lined)
      changes_lined

  -- ---- an account
  module _ (e : Enrolled) (has : Has s.accounts e) where
    -- its name, and that of its entries
    named : IsName e.name
    named = sound.names e has

    own_name : (name : List ℕ) → name ≡ e.name → IsName name
    own_name name is = subst IsName (sym is) named

    -- as it was enrolled and put right
    enrolled_lined : Each IsLined (account_enrolled s e)
    enrolled_lined =
        let first = leb-true _ _ (sound.first_days e has) in
        each_more IsLined _ _ ((named, early_day e.account.start (omega arith)), tt)
        (each_correction (λ beginning. correction.Account e.name beginning) 1 (moves_in s e.name)
        (λ beginning there.
        (let from = has_mapped beginning_of (filter (is_move_of e.name) s.moved) beginning there in
        let move = has_filtered (is_move_of e.name) s.moved from.0 from.1 in
        let year = leb-true _ _ (sound.moved_days from.0 move.0) in
        let start = early_day from.0.beginning.start (omega arith) in
        (named, subst (λ b. IsDay b.start) (sym from.2) start)))
        (let count = sound.move_counts e.name in omega arith))

    -- totals of periods, each with its corrections
    totals_lined : (period : ℕ → ReturnPeriod) (reported corrected : List (Entry Cents))
        → ((x : Entry Cents) → Has reported x → IsPeriod (period x.key))
        → ((x : Entry Cents) → Has reported x → IsAmount x.content)
        → ((x : Entry Cents) → Has corrected x → IsAmount x.content)
        → ((name : List ℕ) (key : ℕ)
        → length (all_at key (filter (is_of name) corrected)) ≤ MOST_NUMBER)
        → Each IsLined (flat_map (total_reported period corrected) (own_by_key e.name reported))
    totals_lined period reported corrected periods amounts others counts =
        each_flat IsLined (total_reported period corrected) _ (λ x h.
        (let there = of_account e.name reported x h in
        let name = own_name x.name there.1 in
        let in_years = periods x there.0 in
        let own = filter (is_of x.name) corrected in
        each_more IsLined _ _ ((name, in_years, amounts x there.0), tt)
        (each_correction (λ cents. correction.Total x.name (period x.key) cents) 1
        (all_at x.key own)
        (λ cents found.
        (let from = has_mapped content_of (filter (has_key x.key) own) cents found in
        let kept = has_filtered (has_key x.key) own from.0 from.1 in
        let whole = has_filtered (is_of x.name) corrected from.0 kept.0 in
        (name, in_years, subst IsAmount (sym from.2) (others from.0 whole.0))))
        (let count = counts x.name x.key in omega arith))))

    -- the period of a total
    quarter_in : (x : Entry Cents) → Has s.reported x → x.key < QUARTERS
    quarter_in x h =
        let bounds = within 1999 2098 (quarter_year x.key) (sound.quarters x h).in_years in
        omega arith

    year_in : (x : Entry Cents) → Has s.reported_years x → IsNumber x.key
    year_in x h =
        let bounds = within 1999 2098 x.key (sound.years x h).in_years in omega arith

    -- totals of quarters and of years, open years, runs and payments
    quarters_lined : Each IsLined
        (flat_map (total_reported Quarter s.corrected) (own_by_key e.name s.reported))
    quarters_lined =
        totals_lined Quarter s.reported s.corrected quarter_in
        (λ x h. small_amount x.content (sound.reported_amounts x h))
        (λ x h. small_amount x.content (sound.corrected_amounts x h)) sound.quarter_counts

    years_lined : Each IsLined
        (flat_map (total_reported Year s.corrected_years) (own_by_key e.name s.reported_years))
    years_lined =
        totals_lined Year s.reported_years s.corrected_years year_in
        (λ x h. small_amount x.content (sound.year_amounts x h))
        (λ x h. small_amount x.content (sound.corrected_year_amounts x h)) sound.year_counts

    open_lined : Each IsLined (map year_opened (filter (is_of e.name) s.open_years))
    open_lined = each_mapped IsLined year_opened _ (λ x h.
        (let there = has_filtered (is_of e.name) s.open_years x h in
        let bounds = within 2001 2098 x.key (sound.opened x there.0).0 in
        ((own_name x.name (same_text x.name e.name there.1), omega arith), tt)))

    runs_lined : Each IsLined (flat_map run_posted (own_by_key e.name s.runs))
    runs_lined = each_flat IsLined run_posted _ (λ x h.
        (let there = of_account e.name s.runs x h in
        let name = own_name x.name there.1 in
        let number = small_number x.key (sound.run_numbers x there.0) in
        let payday = open_day x.name x.content.value.payday (sound.paydays x there.0) in
        let amounts = and_parts (is_amount x.content.value.fit) _ (sound.run_amounts x there.0) in
        let two = and_parts (is_amount x.content.value.ss) (is_amount x.content.value.medicare)
        amounts.1 in
        each_more IsLined _ _ (
          (
            name,
            number,
            (
              payday,
              small_amount _ amounts.0,
              small_amount _ two.0,
              small_amount _ two.1,
            ),
          ),
          tt,
        )
        (void_alone x.content.voided _ ((name, number), tt))))

    payments_lined : Each IsLined (flat_map payment_made (own_by_key e.name s.payments))
    payments_lined = each_flat IsLined payment_made _ (λ x h.
        (let there = of_account e.name s.payments x h in
        let name = own_name x.name there.1 in
        let number = small_number x.key (sound.payment_numbers x there.0) in
        let bounds = within 2001 2099 (year_of x.content.value.paid) (sound.paid_in x there.0) in
        let paid = early_day x.content.value.paid (omega arith) in
        let for_day = open_day x.name x.content.value.for_day (sound.paid_days x there.0) in
        let amount = small_amount x.content.value.cents (sound.paid_amounts x there.0) in
        each_more IsLined _ _ ((name, number, (paid, for_day, amount)), tt)
        (void_alone x.content.voided _ ((name, number), tt))))

    -- all requests about the account
    account_lined : Each IsLined (account_journal s e)
    account_lined =
        let first : List Request = account_enrolled s e in
        let quarters : List Request = flat_map (total_reported Quarter s.corrected)
        (own_by_key e.name s.reported) in
        let years : List Request = flat_map (total_reported Year s.corrected_years)
        (own_by_key e.name s.reported_years) in
        let opened : List Request = map year_opened (filter (is_of e.name) s.open_years) in
        let runs : List Request = flat_map run_posted (own_by_key e.name s.runs) in
        let payments : List Request = flat_map payment_made (own_by_key e.name s.payments) in
        each_append IsLined (first ++ quarters ++ years ++ opened ++ runs) payments
        (each_append IsLined (first ++ quarters ++ years ++ opened) runs
        (each_append IsLined (first ++ quarters ++ years) opened
        (each_append IsLined (first ++ quarters) years
        (each_append IsLined first quarters enrolled_lined quarters_lined) years_lined)
        open_lined) runs_lined) payments_lined

  -- each request of the journal can be written, and its line is short
  pub journal_lined : (asked : Request) → Has (journal s) asked → IsLined asked
  journal_lined =
      each_append IsLined (days_journal s)
      (flat_map (account_journal s) (in_order is_account_before s.accounts)) days_lined
      (each_flat IsLined (account_journal s) (in_order is_account_before s.accounts) (λ e h.
      account_lined e (has_ordered is_account_before s.accounts e h)))

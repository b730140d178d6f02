-- So have the rows of the other lists that a desk answers with.
use Rattle.std.proofs.Common.{◌≡◌, ◌∙◌, refl, sym, ap, subst, ℕ, ◌<◌, ◌≤◌, ◌==◌, ◌^◌}
use Rattle.std.proofs.Common.{◌&&◌, Bool, true, false, cond, inl, inr, List, [], ◌∷◌, map}
use Rattle.std.proofs.Common.{filter, Option, Some, None, arith}
use Rattle.std.specs.Prelude.{IfSome, find, nat_le, option_map}
use Rattle.std.specs.List.{sum_by}
use Rattle.std.proofs.lemmas.Bool.{leb-true, and_parts, eqb-true}
use Rattle.std.proofs.lemmas.List.Sums.{sum_by-cons}
use Rattle.ftd_days.specs.Calendar.{last_day, year_of, quarter_year}
use Rattle.ftd_days.specs.Holidays.{YearDays}
use Rattle.ftd_days.specs.declared.cents.Cents.{Cents}
use Rattle.ftd_days.specs.declared.limits.TheConstants.{LAST_OPEN_YEAR}
use Rattle.ftd_days.proofs.Months.{day_in_years}
use Rattle.ftd_rules.specs.Accounts.{is_account_name}
use Rattle.ftd_rules.specs.Liability.{cents_of}
use Rattle.ftd_rules.specs.Lists.{Has}
use Rattle.ftd_rules.specs.Lookback.{Counts}
use Rattle.ftd_rules.specs.Private.Walk.{years_end}
use Rattle.ftd_rules.specs.Verdicts.{amount_of}
use Rattle.ftd_rules.specs.Years.{TurnedBefore}
use Rattle.ftd_rules.specs.Liability.{liability}
use Rattle.ftd_rules.specs.declared.TheConstants.{AMOUNTS_END}
use Rattle.ftd_rules.specs.declared.DaySum.{DaySum}
use Rattle.ftd_rules.specs.declared.Form.{Form}
use Rattle.ftd_rules.specs.declared.Form.TheVariants.{F941, F943}
use Rattle.ftd_rules.specs.declared.YearLine.{YearLine}
use Rattle.ftd_rules.specs.declared.payment.Payment.{Payment}
use Rattle.ftd_rules.specs.declared.run.PayRun.{PayRun}
use Rattle.ftd_rules.specs.declared.run.Voidable.{Voidable}
use Rattle.ftd_rules.specs.declared.verdict.DueRow.{DueRow}
use Rattle.ftd_rules.proofs.Covering.{line_is}
use Rattle.ftd_rules.proofs.Days.{open_year}
use Rattle.ftd_rules.proofs.Members.{has_mapped, mapped_has}
use Rattle.ftd_rules.proofs.Owed.{has_append}
use Rattle.ftd_rules.proofs.Schedules.{turn_early, year_facts}
use Rattle.ftd_machine.specs.Agenda.{left_of}
use Rattle.ftd_machine.specs.Asking.{IsScheduleB, IsLiableDay}
use Rattle.ftd_machine.specs.Checks.{Answer, first_of, needs}
use Rattle.ftd_machine.specs.History.{AreLinesOf, AreOwed, HasLookback, IsLookbackOn, figure_of}
use Rattle.ftd_machine.specs.History.{figures, form_of, live_sums}
use Rattle.ftd_machine.specs.Kept.{AreAccounts, AreHolidays, AreRuns, AreTotals, AreYears, IsRunIn}
use Rattle.ftd_machine.specs.Kept.{IsTotal, as_first_reported, kept_days, kept_holiday, line_of}
use Rattle.ftd_machine.specs.Limits.{are_amounts, can_be_opened}
use Rattle.ftd_machine.specs.Limits.{is_amount, is_number}
use Rattle.ftd_machine.specs.Sound.{IsSound}
use Rattle.ftd_machine.specs.State.{State, Entry, account_in_force, account_of}
use Rattle.ftd_machine.specs.State.{all_at, beginning_of, calendar_at, content_of, days_of}
use Rattle.ftd_machine.specs.State.{entries_of, first_beginning, has_key, holidays, in_force}
use Rattle.ftd_machine.specs.State.{is_move_of, is_named, is_of, is_open}
use Rattle.ftd_machine.specs.State.{latest, moves_in}
use Rattle.ftd_machine.specs.Step.{Step}
use Rattle.ftd_machine.specs.Told.{days_answer, due_answer, due_facts, kept_answer}
use Rattle.ftd_machine.specs.Told.{unapplied_answer}
use Rattle.ftd_machine.specs.Unapplied.{IsUnapplied, IsUnappliedOf}
use Rattle.ftd_machine.specs.Unapplied.{IsUnappliedRow}
use Rattle.ftd_machine.specs.declared.entries.Account.{Account}
use Rattle.ftd_machine.specs.declared.entries.Beginning.{Beginning}
use Rattle.ftd_machine.specs.declared.entries.ReturnPeriod.{ReturnPeriod}
use Rattle.ftd_machine.specs.declared.entries.ReturnPeriod.TheVariants.{Quarter, Year}
use Rattle.ftd_machine.specs.declared.facts.Facts.TheVariants as facts
use Rattle.ftd_machine.specs.declared.facts.LiabilityByDay.{LiabilityByDay}
use Rattle.ftd_machine.specs.declared.facts.UnappliedList.{UnappliedList}
use Rattle.ftd_machine.specs.declared.kept.KeptAccount.{KeptAccount}
use Rattle.ftd_machine.specs.declared.kept.KeptHoliday.{KeptHoliday}
use Rattle.ftd_machine.specs.declared.kept.KeptRows.TheVariants as rows
use Rattle.ftd_machine.specs.declared.kept.KeptRun.{KeptRun}
use Rattle.ftd_machine.specs.declared.kept.KeptTotal.{KeptTotal}
use Rattle.ftd_machine.specs.declared.kept.KeptYear.{KeptYear}
use Rattle.ftd_machine.specs.declared.lists.UnappliedRow.{UnappliedRow}
use Rattle.ftd_machine.specs.declared.replies.Refusal.{Refusal}
use Rattle.ftd_machine.specs.declared.replies.Reply.TheVariants as reply
use Rattle.ftd_machine.specs.declared.requests.KeptList.TheVariants as kept
use Rattle.ftd_machine.specs.declared.requests.Question.TheVariants.{DueList, Kept, ScheduleB}
use Rattle.ftd_machine.specs.declared.requests.Question.TheVariants.{Unapplied}
use Rattle.ftd_machine.specs.declared.requests.Request.TheVariants.{Question}
use Rattle.ftd_machine.proofs.Entered.{of_kept}
use Rattle.ftd_machine.proofs.Few.{fits_year}
use Rattle.ftd_machine.proofs.Listed.{lists_bounded}
use Rattle.ftd_machine.proofs.Members.{enrolled_of, has_filtered}
use Rattle.ftd_machine.proofs.Refusing.{refuses_none, refuses_needs, refuses_finds}
use Rattle.ftd_machine.proofs.Small.{liability_small, lookback_small, paid_small}
use Rattle.ftd_read_back.specs.Rows.{AreAccountsInRange, AreDaySumsInRange, AreHolidaysInRange}
use Rattle.ftd_read_back.specs.Rows.{AreRunsInRange, AreTotalsInRange, AreUnappliedInRange}
use Rattle.ftd_read_back.specs.Rows.{AreYearsInRange, IsDaySumInRange}
use Rattle.ftd_read_back.specs.Rows.{IsRunInRange, IsTotalInRange, IsUnappliedInRange}
use Rattle.ftd_read_back.specs.Rows.{IsYearInRange}
use Rattle.ftd_read_back.proofs.Desks.{early_year, first_passed, is_early, named, piece}
use Rattle.ftd_read_back.proofs.Desks.{quarter_in_year, small, told, told_by}

-- ---- lists

-- what is found is what a member that meets the test has
found_head : {X Y : Type 0} (f : X → Y) (test : X → Bool) (z : X) (xs : List X) (y : Y) (b : Bool)
    → test z ≡ b → option_map f (cond b (Some z) (find test xs)) ≡ Some y
    → (option_map f (find test xs) ≡ Some y
    → (x : X) × Has xs x × (test x ≡ true) × (f x ≡ y))
    → (x : X) × Has (z ∷ xs) x × (test x ≡ true) × (f x ≡ y)
found_head f test z xs y true e found later = (z, inl refl, e, cc)
found_head f test z xs y false e found later =
    let rest = later found in (rest.0, inr rest.1, rest.2, rest.3)

found_as : {X Y : Type 0} (f : X → Y) (test : X → Bool) (xs : List X) (y : Y)
    → option_map f (find test xs) ≡ Some y
    → (x : X) × Has xs x × (test x ≡ true) × (f x ≡ y)
found_as f test [] y found = absurd cc
found_as f test (z ∷ xs) y found = found_head f test z xs y (test z) refl found
    (λ e. found_as f test xs y e)

-- what holds of the first and of all later ones holds of what is in force
latest_holds : {X : Type 0} (P : X → Type 0) (first : X) (later : List X) → P first
    → ((x : X) → Has later x → P x) → P (latest first later)
latest_holds P first [] holds each = holds
latest_holds P first (x ∷ xs) holds each =
    latest_holds P x xs (each x (inl refl)) (λ y has. each y (inr has))

same_some : {X : Type 0} (a b : X) → Some a ≡ Some b → a ≡ b
same_some a b e = cc

pub second_passed : (one other : Bool) (refusal later : Refusal) (checks : List (Option Answer))
    → first_of (needs one refusal ∷ needs other later ∷ checks) ≡ None → other ≡ true
second_passed true true refusal later checks e = refl
second_passed true false refusal later checks e = absurd cc
second_passed false other refusal later checks e = absurd cc

module _ (s : State) (sound : IsSound s) where
  -- ---- the pay runs of a quarter

  run_row : (account : List ℕ) (quarter : ℕ) (x : KeptRun)
      → IsRunIn (entries_of s account) quarter x → IsRunInRange x
  run_row account quarter x is =
      let content : Voidable PayRun = record { value = x.run; voided = x.voided } in
      let found = of_kept account s.runs sound.runs x.number content is.0 in
      let e : Entry (Voidable PayRun) = found.0 in
      let same : e.content ≡ content = found.4 in
      let number : is_number x.number ≡ true = subst (λ n. is_number n ≡ true) found.3
      (sound.run_numbers e found.1) in
      let open_then : is_open (entries_of s account) (year_of x.run.payday) ≡ true =
      subst
      (λ (v : Voidable PayRun). is_open (entries_of s account) (year_of v.value.payday) ≡ true)
      same (subst (λ n. is_open (entries_of s n) (year_of e.content.value.payday) ≡ true) found.2
      (sound.paydays e found.1)) in
      let amounts : are_amounts x.run ≡ true =
      subst (λ (v : Voidable PayRun). are_amounts v.value ≡ true) same
      (sound.run_amounts e found.1) in
      let most = leb-true x.number 999_999_999
      (and_parts (nat_le 1 x.number) (nat_le x.number 999_999_999) number).1 in
      let early = early_year s account (year_of x.run.payday) sound open_then in
      let parts = and_parts (is_amount x.run.fit) (is_amount x.run.ss && is_amount x.run.medicare)
      amounts in
      let others = and_parts (is_amount x.run.ss) (is_amount x.run.medicare) parts.1 in
      let fit = leb-true x.run.fit.0 99_999_999_999 parts.0 in
      let ss = leb-true x.run.ss.0 99_999_999_999 others.0 in
      let medicare = leb-true x.run.medicare.0 99_999_999_999 others.1 in
      record {
        number = omega arith;
        payday = day_in_years x.run.payday (omega arith);
        fit = omega arith;
        ss = omega arith;
        medicare = omega arith;
      }

  -- ---- accounts

  abbrev IsEarlyBeginning : Beginning → Type 0
  IsEarlyBeginning b = nat_le (year_of b.start) LAST_OPEN_YEAR ≡ true

  start_early : (name : List ℕ) (account : Account) → (entries_of s name).account ≡ Some account
      → account.start ≤ last_day
  start_early name account is =
      let first = enrolled_of s name account is in
      let e = found_as account_of (is_named name) s.accounts first.0 first.1 in
      let moves : List Beginning = moves_in s name in
      let same : in_force moves first.0 ≡ account = same_some _ _
      (ap (λ (o : Option Account). account_in_force o moves) (sym first.1) ∙ is) in
      let begun : IsEarlyBeginning (first_beginning first.0) =
      subst (λ (a : Account). nat_le (year_of a.start) LAST_OPEN_YEAR ≡ true) e.3
      (sound.first_days e.0 e.1) in
      let begins : IsEarlyBeginning (latest (first_beginning first.0) moves) =
      latest_holds IsEarlyBeginning (first_beginning first.0) moves begun (λ b has.
      (let from = has_mapped beginning_of (filter (is_move_of name) s.moved) b has in
      let moved = has_filtered (is_move_of name) s.moved from.0 from.1 in
      subst IsEarlyBeginning (sym from.2) (sound.moved_days from.0 moved.0))) in
      let now : nat_le (year_of account.start) LAST_OPEN_YEAR ≡ true =
      subst (λ (a : Account). nat_le (year_of a.start) LAST_OPEN_YEAR ≡ true) same begins in
      let last = leb-true (year_of account.start) 2098 now in
      day_in_years account.start (omega arith)

  -- ---- open years

  up_to_last : (o : Option ℕ) → IfSome o (λ day. day < years_end)
      → IfSome o (λ day. day ≤ last_day)
  up_to_last None early = tt
  up_to_last (Some day) early = let year = open_year day early in day_in_years day (omega arith)

  pub turn_within : (name : List ℕ) (lines : List YearLine)
      → AreLinesOf (entries_of s name) lines → (line : YearLine) → Has lines line
      → IfSome line.turn (λ day. day ≤ last_day)
  turn_within name lines are line has =
      let sums : List DaySum = live_sums (entries_of s name) in
      let y = line_is lines sums line are.schedules has in
      let y0 = y.0 in let y1 = y.1 in
      up_to_last line.turn
      (turn_early (TurnedBefore lines line.year) (liability sums) line
      (year_facts line.year y0 y1).2 (are.schedules.schedules line has))

  -- a total as it was first reported, and a lookback total by those
  reported_small : (name : List ℕ) (entries : List (Entry Cents))
      → ((e : Entry Cents) → Has entries e → is_amount e.content ≡ true) → (key : ℕ)
      (cents : Cents) → Has (figures (filter (is_of name) entries) []) (key, cents)
      → cents.0 ≤ 99_999_999_999
  reported_small name entries each key cents has =
      let from = has_mapped (figure_of []) (filter (is_of name) entries) (key, cents) has in
      let there = has_filtered (is_of name) entries from.0 from.1 in
      let is : cents ≡ from.0.content = ap (λ (f : ℕ × Cents). f.1) from.2 in
      let most = leb-true from.0.content.0 99_999_999_999 (each from.0 there.0) in
      subst (λ (c : Cents). c.0 ≤ 99_999_999_999) (sym is) most

  counted_small : (name : List ℕ) (start quarter : ℕ) (cents : Cents)
      → Counts (figures (filter (is_of name) s.reported) []) start quarter cents
      → cents.0 ≤ 99_999_999_999
  counted_small name start quarter cents (inl early) = let none = early.1 in omega arith
  counted_small name start quarter cents (inr late) =
      reported_small name s.reported sound.reported_amounts quarter cents late.1

  first_on : (form : Form) (name : List ℕ) (year : ℕ) (total : Cents)
      → IsLookbackOn form (as_first_reported (entries_of s name)) year total
      → total.0 < AMOUNTS_END
  first_on F941 name year total h =
      let a = counted_small name _ _ h.first h.count.0 in
      let b = counted_small name _ _ h.second h.count.1 in
      let c = counted_small name _ _ h.third h.count.2 in
      let d = counted_small name _ _ h.fourth h.count.3 in
      let sum = h.adds_up in
      omega arith
  first_on F943 name year total (inl early) = let none = early.1 in omega arith
  first_on F943 name year total (inr late) =
      let most = reported_small name s.reported_years sound.year_amounts _ total late.1 in
      omega arith

  year_row : (name : List ℕ) (listed : List KeptYear)
      → AreLinesOf (entries_of s name) (map line_of listed) → (x : KeptYear) → Has listed x
      → HasLookback (as_first_reported (entries_of s name)) x.line.year x.first_lookback
      → IsYearInRange x
  year_row name listed are x has first =
      let lines : List YearLine = map line_of listed in
      let sums : List DaySum = live_sums (entries_of s name) in
      let there = mapped_has line_of listed x has in
      let y = line_is lines sums x.line are.schedules there in
      let y0 = y.0 in let y1 = y.1 in
      record {
        year = omega arith;
        lookback = small s sound x.line.lookback.0
            (lookback_small s name sound x.line.year x.line.lookback (are.lookbacks x.line there));
        turn = turn_within name lines are x.line there;
        first_lookback = small s sound x.first_lookback.0
            (first_on (form_of (entries_of s name).account) name x.line.year x.first_lookback
            first);
      }

  -- ---- reported totals

  -- what is in force of a total
  in_force_small : (name : List ℕ) (corrected : List (Entry Cents))
      → ((e : Entry Cents) → Has corrected e → is_amount e.content ≡ true) → (key : ℕ)
      (first : Cents) → is_amount first ≡ true
      → is_amount (latest first (all_at key (filter (is_of name) corrected))) ≡ true
  in_force_small name corrected each key first is =
      let own : List (Entry Cents) = filter (is_of name) corrected in
      latest_holds (λ (c : Cents). is_amount c ≡ true) first (all_at key own) is (λ c has.
      (let from = has_mapped content_of (filter (has_key key) own) c has in
      let keyed = has_filtered (has_key key) own from.0 from.1 in
      let there = has_filtered (is_of name) corrected from.0 keyed.0 in
      subst (λ (c : Cents). is_amount c ≡ true) (sym from.2) (each from.0 there.0)))

  amount_small : (cents : Cents) → is_amount cents ≡ true → cents.0 < 2 ^ 64
  amount_small cents is = let most = leb-true cents.0 99_999_999_999 is in omega arith

  total_row : (name : List ℕ) (form : Form) (period : ReturnPeriod) (cents first : Cents)
      → IsTotal form (entries_of s name)
      (record { period = period; cents = cents; first = first })
      → IsTotalInRange (record { period = period; cents = cents; first = first })
  total_row name form (Quarter quarter) cents first is =
      let own = entries_of s name in
      let found = of_kept name s.reported sound.reported quarter first is.first_reported in
      let amount : is_amount first ≡ true = subst (λ (c : Cents). is_amount c ≡ true) found.4
      (sound.reported_amounts found.0 found.1) in
      let now : latest first (all_at quarter own.corrected) ≡ cents = same_some _ _
      (ap (λ (o : Option Cents). option_map (λ c. latest c (all_at quarter own.corrected)) o)
      (sym is.first_reported) ∙ is.in_force) in
      let last = leb-true (quarter_year found.0.key) 2098
      (and_parts (nat_le 1999 (quarter_year found.0.key)) (nat_le (quarter_year found.0.key) 2098)
      (sound.quarters found.0 found.1).in_years).1 in
      let key = found.3 in
      record {
        period = omega arith;
        amount = amount_small cents (subst (λ (c : Cents). is_amount c ≡ true) now
            (in_force_small name s.corrected sound.corrected_amounts quarter first amount));
        first = amount_small first amount;
      }
  total_row name form (Year year) cents first is =
      let own = entries_of s name in
      let found = of_kept name s.reported_years sound.reported_years year first is.first_reported
      in
      let amount : is_amount first ≡ true = subst (λ (c : Cents). is_amount c ≡ true) found.4
      (sound.year_amounts found.0 found.1) in
      let now : latest first (all_at year own.corrected_years) ≡ cents = same_some _ _
      (ap (λ (o : Option Cents). option_map (λ c. latest c (all_at year own.corrected_years)) o)
      (sym is.first_reported) ∙ is.in_force) in
      let last = leb-true found.0.key 2098
      (and_parts (nat_le 1999 found.0.key) (nat_le found.0.key 2098)
      (sound.years found.0 found.1).in_years).1 in
      let key = found.3 in
      record {
        period = omega arith;
        amount = amount_small cents (subst (λ (c : Cents). is_amount c ≡ true) now
            (in_force_small name s.corrected_years sound.corrected_year_amounts year first
            amount));
        first = amount_small first amount;
      }

  -- ---- holidays

  holiday_early : (year : ℕ) (given : List ℕ) → calendar_at s year ≡ Some given → (day : ℕ)
      → (year_of day ≡ year → day ≤ last_day) × (Has given day → day ≤ last_day)
  holiday_early year given is day =
      let found = found_as days_of (λ (c : YearDays). c.year == year) s.calendars given is in
      let c : YearDays = found.0 in
      let fits = sound.are_calendars c found.1 in
      let last = leb-true c.year 2099 (and_parts (nat_le 2001 c.year) (nat_le c.year 2099) fits.0).1
      in
      let same = eqb-true c.year year found.2 in (
        λ e. day_in_years day (omega arith),
        λ has. (let e = fits_year c.year c.days day fits.1
            (subst (λ (days : List ℕ). Has days day) (sym found.3) has) in
            day_in_years day (omega arith)),
      )

  -- ---- money that counts for nothing

  unapplied_of : (x : UnappliedRow) (name : List ℕ) (owed : _) (o : Option ℕ)
      → AreOwed (holidays s) (entries_of s name) owed → IsUnappliedOf (entries_of s name) owed o x
      → IfSome o (λ number. number < 2 ^ 64) × (x.first ≤ last_day) × (x.last ≤ last_day)
      × (x.amount.0 < 2 ^ 64) × (x.paid.0 < 2 ^ 64)
  unapplied_of x name owed None are is =
      let h = piece s sound name owed are is.obligation is.is_owed in
      let days = is_early s sound name owed are is.obligation is.is_owed in
      let first_year = days.0 in let last_year = days.1 in
      let first = day_in_years is.obligation.first (omega arith) in
      let last = day_in_years is.obligation.last (omega arith) in (
        tt,
        subst (λ d. d ≤ last_day) (sym is.first) first,
        subst (λ d. d ≤ last_day) (sym is.last) last,
        small s sound x.amount.0 (subst (λ n. n < AMOUNTS_END)
            (sym (ap (λ (c : Cents). c.0) is.amount ∙ h.amount))
            (liability_small s name sound is.obligation.first is.obligation.last)),
        small s sound x.paid.0 (subst (λ n. n < AMOUNTS_END) (sym is.paid)
            (paid_small s name sound is.obligation.first is.obligation.last last_day last_day)),
      )
  unapplied_of x name owed (Some number) are is =
      let content : Voidable Payment = record { value = is.payment; voided = false } in
      let found = of_kept name s.payments sound.payments number content is.kept in
      let e : Entry (Voidable Payment) = found.0 in
      let same : e.content ≡ content = found.4 in
      let numbered : is_number number ≡ true = subst (λ n. is_number n ≡ true) found.3
      (sound.payment_numbers e found.1) in
      let open_then : is_open (entries_of s name) (year_of is.payment.for_day) ≡ true =
      subst
      (λ (v : Voidable Payment). is_open (entries_of s name) (year_of v.value.for_day) ≡ true)
      same (subst (λ n. is_open (entries_of s n) (year_of e.content.value.for_day) ≡ true) found.2
      (sound.paid_days e found.1)) in
      let amount : is_amount is.payment.cents ≡ true =
      subst (λ (v : Voidable Payment). is_amount v.value.cents ≡ true) same
      (sound.paid_amounts e found.1) in
      let most = leb-true number 999_999_999
      (and_parts (nat_le 1 number) (nat_le number 999_999_999) numbered).1 in
      let year = early_year s name (year_of is.payment.for_day) sound open_then in
      let day = day_in_years is.payment.for_day (omega arith) in
      let zero = is.amount in (
        omega arith,
        subst (λ d. d ≤ last_day) (sym is.first) day,
        subst (λ d. d ≤ last_day) (sym is.last) day,
        omega arith,
        subst (λ (c : Cents). c.0 < 2 ^ 64) (sym is.paid) (amount_small is.payment.cents amount),
      )

  unapplied_row : (x : UnappliedRow) → IsUnappliedRow s x → IsUnappliedInRange x
  unapplied_row x is =
      let own = unapplied_of x x.account is.owed x.payment is.are_owed is.is_row in
      record {
        name = named s sound x.account is.account is.enrolled;
        payment = own.0;
        first = own.1;
        last = own.2;
        amount = own.3;
        paid = own.4;
      }

  -- ---- Schedule B by day

  liable_day : (name : List ℕ) (quarter : ℕ) (x : DaySum) → quarter_year quarter ≤ 2098
      → IsLiableDay (entries_of s name) quarter x → IsDaySumInRange x
  liable_day name quarter x early is =
      let year = quarter_in_year x.day in
      let within = is.0 in
      record {
        day = day_in_years x.day (subst (λ q. quarter_year q ≤ 2098 → year_of x.day ≤ 2199) within
            (λ low. omega arith) early);
        amount = small s sound x.cents.0 (subst (λ n. n < AMOUNTS_END) (sym is.1)
            (liability_small s name sound x.day x.day));
      }

-- ---- what a question is answered

same_runs : (name : List ℕ) (quarter : ℕ) (a b : List KeptRun)
    → kept_answer (rows.Runs name quarter a) ≡ kept_answer (rows.Runs name quarter b) → a ≡ b
same_runs name quarter a b e = cc

same_accounts : (a b : List KeptAccount)
    → kept_answer (rows.Accounts a) ≡ kept_answer (rows.Accounts b) → a ≡ b
same_accounts a b e = cc

same_years : (name : List ℕ) (a b : List KeptYear)
    → kept_answer (rows.Years name a) ≡ kept_answer (rows.Years name b) → a ≡ b
same_years name a b e = cc

same_totals : (name : List ℕ) (a b : List KeptTotal)
    → kept_answer (rows.Reported name a) ≡ kept_answer (rows.Reported name b) → a ≡ b
same_totals name a b e = cc

same_holidays : (year : ℕ) (a b : List KeptHoliday)
    → kept_answer (rows.Holidays year a) ≡ kept_answer (rows.Holidays year b) → a ≡ b
same_holidays year a b e = cc

same_unapplied : (a b : UnappliedList)
    → told (reply.Told (facts.Unapplied a)) ≡ told (reply.Told (facts.Unapplied b)) → a ≡ b
same_unapplied a b e = cc

same_days : (a b : LiabilityByDay)
    → told (reply.Told (facts.Days a)) ≡ told (reply.Told (facts.Days b)) → a ≡ b
same_days a b e = cc

module _ (s : State) (sound : IsSound s) (after : State) where
  pub runs_told : (account : List ℕ) (quarter : ℕ) (listed : List KeptRun)
      → Step s (Question (Kept (kept.Runs account quarter)))
      (kept_answer (rows.Runs account quarter listed)) after
      → (is_account_name account ≡ true) × AreRunsInRange listed
  runs_told account quarter listed step =
      let passed = told_by s (Kept (kept.Runs account quarter))
      (reply.Told (facts.Kept (rows.Runs account quarter listed))) after
      (refuses_needs _ _ _ (refuses_needs _ _ _ (refuses_finds _ _ [] refuses_none))) step in
      let d : AreRuns (entries_of s account) account quarter
      (kept_answer (rows.Runs account quarter listed)) = passed.1 in
      let same : listed ≡ d.listed = same_runs account quarter listed d.listed d.told in (
        first_passed (is_account_name account) _ _ passed.0,
        λ x has. run_row s sound account quarter x
            ((d.all x).0 (subst (λ xs. Has xs x) same has)),
      )

  pub accounts_told : (listed : List KeptAccount)
      → Step s (Question (Kept kept.Accounts)) (kept_answer (rows.Accounts listed)) after
      → AreAccountsInRange listed
  accounts_told listed step x has =
      let d : AreAccounts s (kept_answer (rows.Accounts listed)) =
      (told_by s (Kept kept.Accounts) (reply.Told (facts.Kept (rows.Accounts listed))) after
      refuses_none step).1 in
      let same : listed ≡ d.listed = same_accounts listed d.listed d.told in
      let enrolled = (d.all x).0 (subst (λ xs. Has xs x) same has) in
      record {
        name = named s sound x.name x.account enrolled;
        start = start_early s sound x.name x.account enrolled;
      }

  pub years_told : (account : List ℕ) (listed : List KeptYear)
      → Step s (Question (Kept (kept.Years account))) (kept_answer (rows.Years account listed))
      after
      → (is_account_name account ≡ true) × AreYearsInRange listed
  years_told account listed step =
      let passed = told_by s (Kept (kept.Years account))
      (reply.Told (facts.Kept (rows.Years account listed))) after
      (refuses_needs _ _ _ (refuses_finds _ _ [] refuses_none)) step in
      let d : AreYears (entries_of s account) account (kept_answer (rows.Years account listed)) =
      passed.1 in
      let same : listed ≡ d.listed = same_years account listed d.listed d.told in (
        first_passed (is_account_name account) _ _ passed.0,
        λ x has. (let there = subst (λ xs. Has xs x) same has in
            year_row s sound account d.listed d.are_lines x there (d.first_lookbacks x there)),
      )

  pub totals_told : (account : List ℕ) (listed : List KeptTotal)
      → Step s (Question (Kept (kept.Reported account)))
      (kept_answer (rows.Reported account listed)) after
      → (is_account_name account ≡ true) × AreTotalsInRange listed
  totals_told account listed step =
      let passed = told_by s (Kept (kept.Reported account))
      (reply.Told (facts.Kept (rows.Reported account listed))) after
      (refuses_needs _ _ _ (refuses_finds _ _ [] refuses_none)) step in
      let d : AreTotals (entries_of s account) account
      (kept_answer (rows.Reported account listed)) = passed.1 in
      let same : listed ≡ d.listed = same_totals account listed d.listed d.told in (
        first_passed (is_account_name account) _ _ passed.0,
        λ x has. total_row s sound account (form_of (entries_of s account).account) x.period
            x.cents x.first ((d.all x).0 (subst (λ xs. Has xs x) same has)),
      )

  pub holidays_told : (year : ℕ) (listed : List KeptHoliday)
      → Step s (Question (Kept (kept.Holidays year))) (kept_answer (rows.Holidays year listed))
      after
      → AreHolidaysInRange listed
  holidays_told year listed step x has =
      let d : AreHolidays s year (kept_answer (rows.Holidays year listed)) =
      (told_by s (Kept (kept.Holidays year))
      (reply.Told (facts.Kept (rows.Holidays year listed))) after
      (refuses_needs _ _ _ (refuses_needs _ _ [] refuses_none)) step).1 in
      let listed_as : List KeptHoliday = kept_days s d.given d.added in
      let same : listed ≡ listed_as = same_holidays year listed listed_as d.told in
      let there : Has listed_as x = subst (λ xs. Has xs x) same has in
      elim (has_append (map (kept_holiday s false) d.given) (map (kept_holiday s true) d.added) x
      there) [
        | inl here ↦ (let from = has_mapped (kept_holiday s false) d.given x here in
            subst (λ (h : KeptHoliday). h.day ≤ last_day) (sym from.2)
            ((holiday_early s sound year d.given d.is_given from.0).1 from.1))
        | inr more ↦ (let from = has_mapped (kept_holiday s true) d.added x more in
            subst (λ (h : KeptHoliday). h.day ≤ last_day) (sym from.2)
            ((holiday_early s sound year d.given d.is_given from.0).0
            ((d.all from.0).0 from.1).1))
      ]

  pub unapplied_told : (until : ℕ) (listed : List UnappliedRow)
      → Step s (Question (Unapplied until)) (unapplied_answer until listed) after
      → AreUnappliedInRange listed
  unapplied_told until listed step x has =
      let d : IsUnapplied s until (unapplied_answer until listed) =
      (told_by s (Unapplied until)
      (reply.Told (facts.Unapplied (record { until = until; rows = listed }))) after
      (refuses_needs _ _ [] refuses_none) step).1 in
      let same : listed ≡ d.listed =
      ap (λ (a : UnappliedList). a.rows) (same_unapplied _ _ d.told) in
      unapplied_row s sound x ((d.all x).0 (subst (λ xs. Has xs x) same has)).0

  pub days_told : (account : List ℕ) (quarter : ℕ) (sums : List DaySum)
      → Step s (Question (ScheduleB account quarter)) (days_answer account quarter sums) after
      → (is_account_name account ≡ true) × AreDaySumsInRange sums
      × (sum_by cents_of sums < 2 ^ 64)
  days_told account quarter sums step =
      let passed = told_by s (ScheduleB account quarter)
      (reply.Told (facts.Days (record { account = account; quarter = quarter; sums = sums })))
      after
      (refuses_needs _ _ _
      (refuses_needs _ _ _
      (refuses_finds _ _ _ (refuses_needs _ _ _ (refuses_needs _ _ [] refuses_none))))) step in
      let d : IsScheduleB (entries_of s account) account quarter
      (days_answer account quarter sums) = passed.1 in
      let same : sums ≡ d.listed = ap (λ (a : LiabilityByDay). a.sums) (same_days _ _ d.told) in
      let year = quarter_year quarter in
      let opened : can_be_opened year ≡ true =
      second_passed (is_account_name account) (can_be_opened year) _ _ _ passed.0 in
      let last = leb-true year 2098 (and_parts (nat_le 2001 year) (nat_le year 2098) opened).1 in (
        first_passed (is_account_name account) _ _ passed.0,
        λ x has. liable_day s sound account quarter x last
            ((d.all x).0 (subst (λ xs. Has xs x) same has)),
        small s sound (sum_by cents_of sums) (lists_bounded s (Question (ScheduleB account quarter))
            (reply.Told (facts.Days (record {
              account = account;
              quarter = quarter;
              sums = sums;
            }))) after sound step),
      )

  -- the amounts of a due list together, and what is left of them
  left_most : (listed : List DueRow) → sum_by left_of listed ≤ sum_by amount_of listed
  left_most [] = omega arith
  left_most (row ∷ listed) =
      let rest = left_most listed in
      let left = sum_by-cons left_of row listed in
      let amount = sum_by-cons amount_of row listed in
      omega arith

  pub due_sums_told : (account : List ℕ) (quarter as_of : ℕ) (listed : List DueRow)
      → Step s (Question (DueList account quarter as_of))
      (due_answer account quarter as_of listed) after
      → (sum_by amount_of listed < 2 ^ 64) × (sum_by left_of listed < 2 ^ 64)
  due_sums_told account quarter as_of listed step =
      let bound : sum_by amount_of listed < AMOUNTS_END =
      lists_bounded s (Question (DueList account quarter as_of))
      (reply.Told (due_facts account quarter as_of listed)) after sound step in
      let left = left_most listed in (
        omega arith,
        omega arith,
      )

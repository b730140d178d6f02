-- A state is sound exactly where its parts are.
use Rattle.std.proofs.Common.{◌≡◌, ◌∙◌, ◌+◌, ◌≤◌, ◌<◌, ℕ, inl, inr, refl, sym, ap, subst, arith}
use Rattle.std.proofs.Common.{true, false, List, [], ◌∷◌, map, length, filter, Option, Some}
use Rattle.std.proofs.Common.{eqb-true, eq-eqb}
use Rattle.std.specs.Prelude.{◌==◌, find, option_map, is_some, nat_le}
use Rattle.std.proofs.lemmas.Bool.{cases_Bool, true≢false}
use Rattle.ftd_days.proofs.Spelling.{same_text}
use Rattle.ftd_days.specs.Calendar.{year_of}
use Rattle.ftd_days.specs.Holidays.{YearDays}
use Rattle.ftd_days.specs.declared.cents.Cents.{Cents}
use Rattle.ftd_days.specs.declared.limits.TheConstants.{LAST_OPEN_YEAR}
use Rattle.ftd_rules.specs.Lists.{Has}
use Rattle.ftd_rules.specs.declared.run.PayRun.{PayRun}
use Rattle.ftd_rules.specs.declared.run.Voidable.{Voidable}
use Rattle.ftd_rules.specs.declared.payment.Payment.{Payment}
use Rattle.ftd_rules.proofs.Members.{has_kept, has_mapped, mapped_has, filter_in, filter_out}
use Rattle.ftd_machine.specs.declared.limits.TheConstants.{MOST_ENTRIES, MOST_NUMBER}
use Rattle.ftd_machine.specs.declared.entries.Account.{Account}
use Rattle.ftd_machine.specs.declared.entries.Beginning.{Beginning}
use Rattle.ftd_machine.specs.declared.entries.ReturnPeriod.TheVariants.{Quarter, Year}
use Rattle.ftd_machine.specs.History.{year_of_entry}
use Rattle.ftd_machine.specs.State.{State, Enrolled, Entry, Entries, entries_of}
use Rattle.ftd_machine.specs.State.{enrolled_in, moves_in, is_of, is_named, is_move_of, account_of}
use Rattle.ftd_machine.specs.State.{beginning_of, is_given, days_of, kept_at, all_at, has_key}
use Rattle.ftd_machine.specs.State.{content_of}
use Rattle.ftd_machine.specs.Sound.{IsSound, AreDistinct, Follow, FollowFrom, IsReportable}
use Rattle.ftd_machine.specs.Sound.{place_of, year_of_calendar}
use Rattle.ftd_machine.specs.Limits.{is_amount}
use Rattle.ftd_machine.proofs.Adding.{own_name, was_enrolled}
use Rattle.ftd_machine.proofs.Found.{filter_none, find_there}
use Rattle.ftd_machine.proofs.JournalAccount.{enrolled_is}
use Rattle.ftd_machine.proofs.Members.{has_filtered, found_some, some_of}
use Rattle.ftd_machine.proofs.SameMembers.{own_apart}
use Rattle.ftd_machine.proofs.Since.{meets_some}
use Rattle.ftd_machine.proofs.Soundness.{in_force_some}
use Rattle.ftd_sound.specs.Own.{IsOwnSound, AreOnce, IsYearSound, IsRunSound}
use Rattle.ftd_sound.specs.Own.{IsPaymentSound, key_of}
use Rattle.ftd_sound.specs.Parts.{AreDaysSound, AreOfEnrolled, IsOfEnrolled}
use Rattle.ftd_sound.specs.Parts.{IsSoundByParts, given_years}

-- ---- calendars

given_has : (s : State) (year : ℕ) → is_given s year ≡ true → Has (given_years s) year
given_has s year is =
    let found = some_of (option_map days_of (find (λ (c : YearDays). c.year == year) s.calendars))
    is in
    let c = found_some days_of (λ (c : YearDays). c.year == year) s.calendars found.0 found.1 in
    subst (Has (given_years s)) (eqb-true c.0.year year c.2)
    (mapped_has year_of_calendar s.calendars c.0 c.1)

has_given : (s : State) (year : ℕ) → Has (given_years s) year → is_given s year ≡ true
has_given s year has =
    let c = has_mapped year_of_calendar s.calendars year has in
    find_there days_of (λ (c : YearDays). c.year == year) s.calendars c.0 c.1
    (eq-eqb c.0.year year (sym c.2))

-- ---- entries of one account

module _ {X : Type 0} (name : List ℕ) (xs : List (Entry X)) (e : Entry X) where
  -- an entry of the account is one of the state, under its name
  of_state : Has (filter (is_of name) xs) e → Has xs e × (e.name ≡ name)
  of_state has =
      let there = has_filtered (is_of name) xs e has in
      (there.0, same_text e.name name there.1)

-- each entry is one of its own account
of_own : {X : Type 0} (xs : List (Entry X)) (e : Entry X) → Has xs e
    → Has (filter (is_of e.name) xs) e
of_own xs e has = has_kept (is_of e.name) xs e has (own_name e.name)

-- what is so of each entry and its account is so of those of one account
own_ones : {X : Type 0} (s : State) (P : Entries → Entry X → Type 0) (xs : List (Entry X))
    → ((e : Entry X) → Has xs e → P (entries_of s e.name) e)
    → (name : List ℕ) (e : Entry X) → Has (filter (is_of name) xs) e → P (entries_of s name) e
own_ones s P xs all name e has =
    let there = of_state name xs e has in
    subst (λ n. P (entries_of s n) e) there.1 (all e there.0)

-- what is kept somewhere of the account was entered of it
kept_of : {X : Type 0} (xs : List (Entry X)) (name : List ℕ) (key : ℕ)
    → is_some (kept_at key (filter (is_of name) xs)) ≡ true → (d : Entry X) × Has xs d
    × (d.name ≡ name)
kept_of xs name key is =
    let found = some_of (kept_at key (filter (is_of name) xs)) is in
    let d = found_some content_of (has_key key) (filter (is_of name) xs) found.0 found.1 in
    let there = of_state name xs d.0 d.1 in
    (d.0, there.0, there.1)

-- ---- the parts of a sound state

is_enrolled : (s : State) (name : List ℕ) → is_some (entries_of s name).account ≡ true
    → is_some (enrolled_in s name) ≡ true
is_enrolled s name is = was_enrolled (enrolled_in s name) (moves_in s name) is

module _ (s : State) (sound : IsSound s) where
  reported_of : AreOfEnrolled s s.reported
  reported_of e has = is_enrolled s e.name
      (meets_some _ (entries_of s e.name).account (sound.quarters e has).on_form)

  reported_years_of : AreOfEnrolled s s.reported_years
  reported_years_of e has = is_enrolled s e.name
      (meets_some _ (entries_of s e.name).account (sound.years e has).on_form)

  of_enrolled : IsOfEnrolled s
  of_enrolled = record {
    moved = sound.moved_accounts;
    reported = reported_of;
    reported_years = reported_years_of;
    corrected = λ e has.
        let d = kept_of s.reported e.name e.key (sound.corrected_quarters e has) in
        subst (λ n. is_some (enrolled_in s n) ≡ true) d.2 (reported_of d.0 d.1);
    corrected_years = λ e has.
        let d = kept_of s.reported_years e.name e.key (sound.corrected_years e has) in
        subst (λ n. is_some (enrolled_in s n) ≡ true) d.2 (reported_years_of d.0 d.1);
    open_years = λ e has. is_enrolled s e.name (sound.enrolled e has);
    runs = λ e has. is_enrolled s e.name
        (meets_some _ (entries_of s e.name).account (sound.posted_since e has));
    payments = λ e has. is_enrolled s e.name
        (meets_some _ (entries_of s e.name).account (sound.paid_since e has));
  }

  days_sound : AreDaysSound s
  days_sound = record {
    calendars = sound.calendars;
    are_calendars = sound.are_calendars;
    added_days = λ day has. given_has s (year_of day) (sound.added_days day has);
    few = sound.few;
    days_once = sound.days_once;
    changed = sound.changed;
    change_counts = sound.change_counts;
  }

  year_sound : (e : Entry (Unit {0})) → Has s.open_years e
      → IsYearSound (given_years s) (entries_of s e.name) e.key
  year_sound e has = record {
    is_open_year = (sound.opened e has).0;
    given_is = given_has s e.key (sound.opened e has).1;
    next_is = given_has s (e.key + 1) (sound.opened e has).2;
    since = sound.opened_since e has;
    total = sound.totals e has;
  }

  run_sound : (e : Entry (Voidable PayRun)) → Has s.runs e → IsRunSound (entries_of s e.name) e
  run_sound e has = record {
    number = sound.run_numbers e has;
    amounts = sound.run_amounts e has;
    payday = sound.paydays e has;
    since = sound.posted_since e has;
  }

  payment_sound : (e : Entry (Voidable Payment)) → Has s.payments e
      → IsPaymentSound (entries_of s e.name) e
  payment_sound e has = record {
    number = sound.payment_numbers e has;
    amount = sound.paid_amounts e has;
    something = sound.paid_something e has;
    paid_in = sound.paid_in e has;
    for_day = sound.paid_days e has;
    since = sound.paid_since e has;
  }

  own_sound : (e : Enrolled) → Has s.accounts e
      → IsOwnSound (given_years s) (entries_of s e.name)
  own_sound e has =
      let name = e.name in
      record {
        in_force = refl;
        starts = record {
          enrolled = λ account is.
              let same : e.account ≡ account = some_same
              (sym (enrolled_is s.accounts e sound.accounts has) ∙ is) in
              subst (λ (a : Account). nat_le (year_of a.start) LAST_OPEN_YEAR ≡ true) same
              (sound.first_days e has);
          moves = λ b has'.
              let m = has_mapped beginning_of (filter (is_move_of name) s.moved) b has' in
              let there = has_filtered (is_move_of name) s.moved m.0 m.1 in
              subst (λ (c : Beginning). nat_le (year_of c.start) LAST_OPEN_YEAR ≡ true) (sym m.2)
              (sound.moved_days m.0 there.0);
          move_counts = sound.move_counts name;
        };
        quarters = record {
          once = own_apart name s.reported sound.reported;
          periods = own_ones s (λ own d. IsReportable own.account (Quarter d.key)) s.reported
              sound.quarters name;
          amounts = λ d has'. sound.reported_amounts d (of_state name s.reported d has').0;
          corrected_ones = own_ones s (λ own d. is_some (kept_at d.key own.reported) ≡ true)
              s.corrected sound.corrected_quarters name;
          corrected_amounts = λ d has'. sound.corrected_amounts d
              (of_state name s.corrected d has').0;
          counts = sound.quarter_counts name;
        };
        years = record {
          once = own_apart name s.reported_years sound.reported_years;
          periods = own_ones s (λ own d. IsReportable own.account (Year d.key)) s.reported_years
              sound.years name;
          amounts = λ d has'. sound.year_amounts d (of_state name s.reported_years d has').0;
          corrected_ones = own_ones s (λ own d. is_some (kept_at d.key own.reported_years) ≡ true)
              s.corrected_years sound.corrected_years name;
          corrected_amounts = λ d has'. sound.corrected_year_amounts d
              (of_state name s.corrected_years d has').0;
          counts = sound.year_counts name;
        };
        open_years = record {
          in_turn = sound.in_turn name;
          each = own_ones s (λ own d. IsYearSound (given_years s) own d.key) s.open_years
              year_sound name;
        };
        runs = record {
          once = own_apart name s.runs sound.runs;
          count = (sound.counts name).0;
          each = own_ones s IsRunSound s.runs run_sound name;
        };
        payments = record {
          once = own_apart name s.payments sound.payments;
          count = (sound.counts name).1;
          each = own_ones s IsPaymentSound s.payments payment_sound name;
        };
      }
    where
      some_same : {X : Type 0} {a b : X} → ◌≡◌ {A = Option X} (Some a) (Some b) → a ≡ b
      some_same e = cc

pub sound_by_parts : (s : State) → IsSound s → IsSoundByParts s
sound_by_parts s sound = record {
  days = days_sound s sound;
  accounts = sound.accounts;
  of_enrolled = of_enrolled s sound;
  each = λ e has. record { name = sound.names e has; own = own_sound s sound e has };
}

-- ---- years that follow one another

-- each comes after those before it
after_from : (year : ℕ) (es : List (Entry (Unit {0}))) → FollowFrom year (map year_of_entry es)
    → (e : Entry (Unit {0})) → Has es e → year < e.key
after_from year [] follow e has = absurd has
after_from year (d ∷ es) follow e (inl is) =
    let same : e.key ≡ d.key = ap key_of is in
    let next = follow.0 in
    omega arith
after_from year (d ∷ es) follow e (inr has) =
    let later = after_from d.key es follow.1 e has in
    let next = follow.0 in
    omega arith

-- so each stands once
from_once : (year : ℕ) (es : List (Entry (Unit {0}))) → FollowFrom year (map year_of_entry es)
    → AreOnce es
from_once year [] follow = tt
from_once year (e ∷ es) follow = (
  (λ later has same. let after = after_from e.key es follow.1 later has in omega arith),
  from_once e.key es follow.1,
)

years_once : (es : List (Entry (Unit {0}))) → Follow (map year_of_entry es) → AreOnce es
years_once [] follow = tt
years_once (e ∷ es) follow = (
  (λ later has same. let after = after_from e.key es follow later has in omega arith),
  from_once e.key es follow,
)

-- ---- a state of sound parts

-- entries that stand once by account stand once
apart_own : {X : Type 0} (name : List ℕ) (x : Entry X) (xs : List (Entry X))
    → AreOnce (filter (is_of name) (x ∷ xs)) → AreOnce (filter (is_of name) xs)
apart_own {X = X} name x xs once = elim (cases_Bool (is_of name x)) [
  | inl own ↦ (let P : List (Entry X) → Type 0 = AreOnce in
      (subst P (filter_in (is_of name) x xs own) once).1)
  | inr other ↦ (let P : List (Entry X) → Type 0 = AreOnce in
      subst P (filter_out (is_of name) x xs other) once)
]

apart_by_name : {X : Type 0} (xs : List (Entry X))
    → ((name : List ℕ) → AreOnce (filter (is_of name) xs)) → AreDistinct place_of xs
apart_by_name [] once = tt
apart_by_name {X = X} (x ∷ xs) once = (
  (λ later has same.
      let P : List (Entry X) → Type 0 = AreOnce in
      let here = subst P (filter_in (is_of x.name) x xs (own_name x.name)) (once x.name) in
      let named : later.name ≡ x.name = ap (λ (p : List ℕ × ℕ). p.0) same in
      let own : is_of x.name later ≡ true = subst (λ n. is_of n later ≡ true) named
      (own_name later.name) in
      here.0 later (has_kept (is_of x.name) xs later has own) (ap (λ (p : List ℕ × ℕ). p.1) same)),
  apart_by_name xs (λ name. apart_own name x xs (once name)),
)

module _ (s : State) (parts : IsSoundByParts s) where
  -- what is kept of an account that is enrolled is sound
  own_at : (name : List ℕ) → is_some (enrolled_in s name) ≡ true
      → IsOwnSound (given_years s) (entries_of s name)
  own_at name is =
      let found = some_of (enrolled_in s name) is in
      let e = found_some account_of (is_named name) s.accounts found.0 found.1 in
      subst (λ n. IsOwnSound (given_years s) (entries_of s n)) (same_text e.0.name name e.2)
      (parts.each e.0 e.1).own

  -- nothing is kept of one that is not
  none_at : {X : Type 0} (xs : List (Entry X)) (name : List ℕ) → AreOfEnrolled s xs
      → is_some (enrolled_in s name) ≡ false → filter (is_of name) xs ≡ []
  none_at xs name all none = filter_none (is_of name) xs (λ e has is.
      true≢false (sym (all e has)
      ∙ ap (λ n. is_some (enrolled_in s n)) (same_text e.name name is) ∙ none))

  -- so what is so of sound entries of an account, and of none, is so of each name
  each_name : {X : Type 0} (P : List (Entry X) → Type 0) (xs : List (Entry X))
      → AreOfEnrolled s xs → P []
      → ((name : List ℕ) → is_some (enrolled_in s name) ≡ true → P (filter (is_of name) xs))
      → (name : List ℕ) → P (filter (is_of name) xs)
  each_name P xs all none some name = elim (cases_Bool (is_some (enrolled_in s name))) [
    | inl there ↦ some name there
    | inr not_there ↦ subst P (sym (none_at xs name all not_there)) none
  ]

  once_by_name : {X : Type 0} (xs : List (Entry X)) → AreOfEnrolled s xs
      → ((name : List ℕ) → is_some (enrolled_in s name) ≡ true → AreOnce (filter (is_of name) xs))
      → AreDistinct place_of xs
  once_by_name xs all some = apart_by_name xs (each_name AreOnce xs all tt some)

  -- what is so of the entries of each account that is enrolled is so of each entry
  at_own : {X : Type 0} (P : Entries → Entry X → Type 0) (xs : List (Entry X))
      → AreOfEnrolled s xs
      → ((name : List ℕ) → IsOwnSound (given_years s) (entries_of s name) → (e : Entry X)
      → Has (filter (is_of name) xs) e → P (entries_of s name) e)
      → (e : Entry X) → Has xs e → P (entries_of s e.name) e
  at_own P xs all own e has = own e.name (own_at e.name (all e has)) e (of_own xs e has)

  -- the same where a fact speaks of the entry alone
  of_each : {X : Type 0} (P : Entry X → Type 0) (xs : List (Entry X))
      → AreOfEnrolled s xs
      → ((name : List ℕ) → IsOwnSound (given_years s) (entries_of s name) → (e : Entry X)
      → Has (filter (is_of name) xs) e → P e)
      → (e : Entry X) → Has xs e → P e
  of_each P xs all own = at_own (λ entries. P) xs all own

  moves_none : (name : List ℕ) → is_some (enrolled_in s name) ≡ false → moves_in s name ≡ []
  moves_none name none =
      ap (map beginning_of) (filter_none (is_move_of name) s.moved (λ m has is.
      true≢false (sym (parts.of_enrolled.moved m has)
      ∙ ap (λ n. is_some (enrolled_in s n)) (same_text m.name name is) ∙ none)))

  move_count : (name : List ℕ) → length (moves_in s name) ≤ MOST_NUMBER
  move_count name = elim (cases_Bool (is_some (enrolled_in s name))) [
    | inl there ↦ (own_at name there).starts.move_counts
    | inr none ↦ (let no = ap length (moves_none name none) in omega arith)
  ]

  first_day : (e : Enrolled) → Has s.accounts e
      → nat_le (year_of e.account.start) LAST_OPEN_YEAR ≡ true
  first_day e has = (parts.each e has).own.starts.enrolled e.account
      (enrolled_is s.accounts e parts.accounts has)

  year_of_own : (e : Entry (Unit {0})) → Has s.open_years e
      → IsYearSound (given_years s) (entries_of s e.name) e.key
  year_of_own = at_own (λ own e. IsYearSound (given_years s) own e.key) s.open_years
      parts.of_enrolled.open_years (λ name own. own.open_years.each)

  run_of_own : (e : Entry (Voidable PayRun)) → Has s.runs e → IsRunSound (entries_of s e.name) e
  run_of_own = at_own IsRunSound s.runs parts.of_enrolled.runs (λ name own. own.runs.each)

  payment_of_own : (e : Entry (Voidable Payment)) → Has s.payments e
      → IsPaymentSound (entries_of s e.name) e
  payment_of_own = at_own IsPaymentSound s.payments parts.of_enrolled.payments
      (λ name own. own.payments.each)

  pub parts_sound : IsSound s
  parts_sound =
      let of = parts.of_enrolled in
      record {
        accounts = parts.accounts;
        calendars = parts.days.calendars;
        reported = once_by_name s.reported of.reported (λ name is. (own_at name is).quarters.once);
        reported_years = once_by_name s.reported_years of.reported_years
            (λ name is. (own_at name is).years.once);
        open_years = once_by_name s.open_years of.open_years
            (λ name is. years_once (entries_of s name).open_years
            (own_at name is).open_years.in_turn);
        runs = once_by_name s.runs of.runs (λ name is. (own_at name is).runs.once);
        payments = once_by_name s.payments of.payments (λ name is. (own_at name is).payments.once);
        are_calendars = parts.days.are_calendars;
        opened = λ e has.
            let year = year_of_own e has in (
              year.is_open_year,
              has_given s e.key year.given_is,
              has_given s (e.key + 1) year.next_is,
            );
        enrolled = λ e has. in_force_some (enrolled_in s e.name) (moves_in s e.name)
            (of.open_years e has);
        totals = λ e has. (year_of_own e has).total;
        in_turn = each_name (λ (es : List (Entry (Unit {0}))). Follow (map year_of_entry es))
            s.open_years of.open_years tt (λ name is. (own_at name is).open_years.in_turn);
        paydays = λ e has. (run_of_own e has).payday;
        paid_days = λ e has. (payment_of_own e has).for_day;
        counts = λ name. (
          each_name (λ (es : List (Entry (Voidable PayRun))). length es ≤ MOST_ENTRIES) s.runs
              of.runs (omega arith) (λ n is. (own_at n is).runs.count) name,
          each_name (λ (es : List (Entry (Voidable Payment))). length es ≤ MOST_ENTRIES) s.payments
              of.payments (omega arith) (λ n is. (own_at n is).payments.count) name,
        );
        run_numbers = λ e has. (run_of_own e has).number;
        reported_amounts = of_each (λ e. is_amount e.content ≡ true) s.reported of.reported
            (λ name own. own.quarters.amounts);
        year_amounts = of_each (λ e. is_amount e.content ≡ true) s.reported_years of.reported_years
            (λ name own. own.years.amounts);
        corrected_amounts = of_each (λ e. is_amount e.content ≡ true) s.corrected of.corrected
            (λ name own. own.quarters.corrected_amounts);
        corrected_year_amounts = of_each (λ e. is_amount e.content ≡ true) s.corrected_years
            of.corrected_years (λ name own. own.years.corrected_amounts);
        run_amounts = λ e has. (run_of_own e has).amounts;
        paid_amounts = λ e has. (payment_of_own e has).amount;
        added_days = λ day has. has_given s (year_of day) (parts.days.added_days day has);
        few = parts.days.few;
        changed = parts.days.changed;
        days_once = parts.days.days_once;
        names = λ e has. (parts.each e has).name;
        first_days = first_day;
        moved_accounts = of.moved;
        moved_days = λ m has. (own_at m.name (of.moved m has)).starts.moves m.beginning
            (mapped_has beginning_of (filter (is_move_of m.name) s.moved) m
            (has_kept (is_move_of m.name) s.moved m has (own_name m.name)));
        quarters = at_own (λ own e. IsReportable own.account (Quarter e.key)) s.reported of.reported
            (λ name own. own.quarters.periods);
        years = at_own (λ own e. IsReportable own.account (Year e.key)) s.reported_years
            of.reported_years (λ name own. own.years.periods);
        corrected_quarters = at_own (λ own e. is_some (kept_at e.key own.reported) ≡ true)
            s.corrected of.corrected (λ name own. own.quarters.corrected_ones);
        corrected_years = at_own (λ own e. is_some (kept_at e.key own.reported_years) ≡ true)
            s.corrected_years of.corrected_years (λ name own. own.years.corrected_ones);
        opened_since = λ e has. (year_of_own e has).since;
        posted_since = λ e has. (run_of_own e has).since;
        paid_since = λ e has. (payment_of_own e has).since;
        payment_numbers = λ e has. (payment_of_own e has).number;
        paid_something = λ e has. (payment_of_own e has).something;
        paid_in = λ e has. (payment_of_own e has).paid_in;
        move_counts = move_count;
        change_counts = parts.days.change_counts;
        quarter_counts = λ name quarter.
            each_name (λ (es : List (Entry Cents)). length (all_at quarter es) ≤ MOST_NUMBER)
            s.corrected of.corrected (omega arith) (λ n is. (own_at n is).quarters.counts quarter)
            name;
        year_counts = λ name year.
            each_name (λ (es : List (Entry Cents)). length (all_at year es) ≤ MOST_NUMBER)
            s.corrected_years of.corrected_years (omega arith)
            (λ n is. (own_at n is).years.counts year) name;
      }

-- Where the days and each account are sound, the tables stand for a sound state.
use Rattle.std.proofs.Common.{◌≡◌, ◌∙◌, ◌≤◌, ℕ, inl, inr, refl, sym, ap, subst, Bool}
use Rattle.std.proofs.Common.{true, List, [], ◌∷◌, map, filter, Option, Some}
use Rattle.std.proofs.Common.{arith, ◌++◌, append-nil}
use Rattle.std.specs.Prelude.{bytes_eq, is_some}
use Rattle.std.specs.List.Sorted.{IsPermutation}
use Rattle.std.proofs.lemmas.Bool.{cases_Bool}
use Rattle.std.proofs.lemmas.List.Sorted.{IsPermutation-refl}
use Rattle.ftd_days.specs.Business.{is_holiday}
use Rattle.ftd_days.specs.Calendar.{year_of}
use Rattle.ftd_days.specs.Holidays.{YearDays}
use Rattle.ftd_days.specs.declared.cents.Cents.{Cents}
use Rattle.ftd_days.proofs.Spelling.{same_text}
use Rattle.ftd_rules.specs.declared.run.PayRun.{PayRun}
use Rattle.ftd_rules.specs.declared.run.Voidable.{Voidable}
use Rattle.ftd_rules.specs.declared.payment.Payment.{Payment}
use Rattle.ftd_rules.specs.Lists.{Has}
use Rattle.ftd_rules.specs.Obligations.{AreObligations}
use Rattle.ftd_rules.proofs.Members.{has_mapped, mapped_has, filter_in, filter_out}
use Rattle.ftd_sql.specs.Rows.{ReportedQuarterRow, ReportedYearRow, YearRow, RunRow, PaymentRow}
use Rattle.ftd_sql.specs.Rows.{CorrectedQuarterRow, CorrectedYearRow, CorrectedAccountRow, FormRow}
use Rattle.ftd_sql.specs.Rows.{ObligationRow}
use Rattle.ftd_sql.specs.Beginnings.{HasVersion}
use Rattle.ftd_sql.specs.Standing.{Tables}
use Rattle.ftd_sql.specs.Tests.{is_year_of}
use Rattle.ftd_sql.specs.declared.TableName.TheVariants.{Metas, Accounts, Forms, CorrectedAccounts}
use Rattle.ftd_sql.specs.declared.TableName.TheVariants.{ReportedQuarters, ReportedYears}
use Rattle.ftd_sql.specs.declared.TableName.TheVariants.{CorrectedQuarters, CorrectedYears, Years}
use Rattle.ftd_sql.specs.declared.TableName.TheVariants.{Runs, Payments, Obligations}
use Rattle.ftd_sql.specs.declared.TableName.TheVariants.{CalendarYears, Holidays, AddedHolidays}
use Rattle.ftd_sql.specs.declared.TableName.TheVariants.{ChangedHolidays}
use Rattle.ftd_store.specs.Rows.{form_row}
use Rattle.ftd_machine.specs.declared.entries.Account.{Account}
use Rattle.ftd_machine.specs.declared.entries.Beginning.{Beginning}
use Rattle.ftd_machine.specs.State.{State, Enrolled, Entry, Entries, Move, DayChange, entries_of}
use Rattle.ftd_machine.specs.State.{enrolled_in, moves_in, is_of, is_named, account_of}
use Rattle.ftd_machine.specs.State.{beginning_of, account_in_force, nothing, holidays}
use Rattle.ftd_machine.specs.History.{form_of, live_sums, year_of_entry, AreLinesOf}
use Rattle.ftd_machine.specs.Sound.{IsSound, AreDistinct, name_of, year_of_calendar}
use Rattle.ftd_machine.proofs.Adding.{own_name}
use Rattle.ftd_machine.proofs.Few.{few_in_force}
use Rattle.ftd_machine.proofs.Found.{filter_all, filter_none, find_there}
use Rattle.ftd_rules.proofs.Owed.{has_append}
use Rattle.std.proofs.lemmas.List.Elements.{filter-append}
use Rattle.ftd_machine.proofs.JournalAccount.{enrolled_is}
use Rattle.ftd_entries.specs.Standing.{AreDays, StandsFor, KeepsEntries, IsSettled, enrolled_row}
use Rattle.ftd_entries.specs.Standing.{enrolled_form, quarter_entry, year_entry, run_entry}
use Rattle.ftd_entries.specs.Standing.{payment_entry, correction_entry, year_correction_entry}
use Rattle.ftd_entries.specs.Standing.{account_correction_entry}
use Rattle.ftd_entries.specs.Standing.{is_obligation_of}
use Rattle.ftd_sound.specs.Own.{IsOwnSound}
use Rattle.ftd_sound.specs.Parts.{AreDaysSound, IsSoundByParts, IsAccountSound}
use Rattle.ftd_sound.proofs.Parted.{parts_sound}
use Rattle.ftd_check.specs.Holidays.{KnowsAll}
use Rattle.ftd_check.specs.Parts.{HasEntered, move_to, AreNamed}
use Rattle.ftd_check.specs.Whole.{SoundAccount, AreOfAccounts, account_in, name_in}
use Rattle.ftd_check.proofs.ByHolidays.{obligations_by_all}
use Rattle.ftd_check.proofs.Covered.{text_itself}
use Rattle.ftd_check.proofs.Gathered.{AreOwn, gathered, own_gathered, rows_gathered, has_or_not}
use Rattle.ftd_check.proofs.Gathered.{plain_rows, gathered_named}
use Rattle.ftd_check.proofs.Rows.{entry_name, move_name, quarter_row, year_total_row, kept_run_row}
use Rattle.ftd_check.proofs.Rows.{kept_payment_row, one_quarter, one_year_total, one_run}
use Rattle.ftd_check.proofs.Rows.{one_payment, one_correction, one_year_correction, one_move}
use Rattle.ftd_check.proofs.Rows.{alone_correction, alone_year_correction, alone_move}
use Rattle.ftd_check.proofs.Singles.{single_rows}

-- ---- entries by their parts

pub entries_same : (a b : Entries) → a.enrolled ≡ b.enrolled → a.moves ≡ b.moves
    → a.account ≡ b.account → a.reported ≡ b.reported → a.reported_years ≡ b.reported_years
    → a.open_years ≡ b.open_years → a.runs ≡ b.runs → a.payments ≡ b.payments
    → a.corrected ≡ b.corrected → a.corrected_years ≡ b.corrected_years → a ≡ b
entries_same a b p0 p1 p2 p3 p4 p5 p6 p7 p8 p9 = λ i. record {
  enrolled = p0 i;
  moves = p1 i;
  account = p2 i;
  reported = p3 i;
  reported_years = p4 i;
  open_years = p5 i;
  runs = p6 i;
  payments = p7 i;
  corrected = p8 i;
  corrected_years = p9 i;
}

-- of what a list is made of, those that pass
pub filter_map : {X Y : Type 0} (p : Y → Bool) (f : X → Y) (xs : List X)
    → filter p (map f xs) ≡ map f (filter (λ x. p (f x)) xs)
filter_map p f [] = refl
filter_map {Y = Y} p f (x ∷ xs) = elim (cases_Bool (p (f x))) [
  | inl is ↦ filter_in p (f x) (map f xs) is
      ∙ ap (λ (ys : List Y). f x ∷ ys) (filter_map p f xs)
      ∙ sym (ap (map f) (filter_in (λ z. p (f z)) x xs is))
  | inr not ↦ filter_out p (f x) (map f xs) not ∙ filter_map p f xs
      ∙ sym (ap (map f) (filter_out (λ z. p (f z)) x xs not))
]

-- ---- open years

-- the open years of several accounts, account by account, are its own of each
module _ {X P : Type 0} (name_of' : P → List ℕ) (own : P → List (Entry X))
    (named : (p : P) → AreNamed (name_of' p) (own p)) where
  abbrev all_own : List P → List (Entry X)
  all_own [] = []
  all_own (p ∷ ps) = own p ++ all_own ps

  all_own_named : (ps : List P) (e : Entry X) → Has (all_own ps) e
      → (p : P) × Has ps p × (e.name ≡ name_of' p)
  all_own_named [] e has = absurd has
  all_own_named (p ∷ ps) e has = elim (has_append (own p) (all_own ps) e has) [
    | inl here ↦ (p, inl refl, named p e here)
    | inr there ↦ (let rest = all_own_named ps e there in (rest.0, inr rest.1, rest.2))
  ]

  -- those of one account are all of it, and those of another none
  own_all : (p : P) → filter (is_of (name_of' p)) (own p) ≡ own p
  own_all p = filter_all (is_of (name_of' p)) (own p)
      (λ e has. subst (λ n. bytes_eq n (name_of' p) ≡ true) (sym (named p e has))
      (own_name (name_of' p)))

  own_none : (p : P) (name : List ℕ) → (name_of' p ≡ name → ⊥)
      → filter (is_of name) (own p) ≡ []
  own_none p name apart = filter_none (is_of name) (own p)
      (λ e has is. apart (sym (named p e has) ∙ same_text e.name name is))

  none_left : (ps : List P) (name : List ℕ) → ((p : P) → Has ps p → name_of' p ≡ name → ⊥)
      → filter (is_of name) (all_own ps) ≡ []
  none_left [] name apart = refl
  none_left (p ∷ ps) name apart =
      filter-append (is_of name) (own p) (all_own ps)
      ∙ ap (λ (es : List (Entry X)). es ++ filter (is_of name) (all_own ps))
      (own_none p name (apart p (inl refl)))
      ∙ none_left ps name (λ q has. apart q (inr has))

  own_of_all : (ps : List P) → AreDistinct name_of' ps → (p : P) → Has ps p
      → filter (is_of (name_of' p)) (all_own ps) ≡ own p
  own_of_all [] once p has = absurd has
  own_of_all (q ∷ ps) once p (inl is) =
      let here : filter (is_of (name_of' q)) (all_own (q ∷ ps)) ≡ own q =
      filter-append (is_of (name_of' q)) (own q) (all_own ps)
      ∙ ap (λ (es : List (Entry X)). es ++ filter (is_of (name_of' q)) (all_own ps)) (own_all q)
      ∙ ap (λ (es : List (Entry X)). own q ++ es)
      (none_left ps (name_of' q) (λ r has same. once.0 r has same))
      ∙ append-nil (own q) in
      subst (λ (r : P). filter (is_of (name_of' r)) (all_own (q ∷ ps)) ≡ own r) (sym is) here
  own_of_all (q ∷ ps) once p (inr has) =
      filter-append (is_of (name_of' p)) (own q) (all_own ps)
      ∙ ap (λ (es : List (Entry X)). es ++ filter (is_of (name_of' p)) (all_own ps))
      (own_none q (name_of' p) (λ same. once.0 p has (sym same)))
      ∙ own_of_all ps once.1 p has

-- ---- the names of accounts

pub names_once : (es : List Enrolled) → AreDistinct name_of es
    → AreDistinct text_itself (map name_of es)
names_once [] once = tt
names_once (e ∷ es) once = (
  (λ later has same.
      let from = has_mapped name_of es later has in
      once.0 from.0 from.1 (sym from.2 ∙ same)),
  names_once es once.1,
)

module _ (t : Tables) (calendars : List YearDays) (added : List ℕ) (changes : List DayChange)
    (days : AreDays (t CalendarYears) (t Holidays) (t AddedHolidays) (t ChangedHolidays) calendars
    added changes)
    (read : List ℕ) (accounts : List (SoundAccount t (map year_of_calendar calendars) read))
    (accounts_are : t Accounts ≡ map enrolled_row (map account_in accounts))
    (once : AreDistinct name_in accounts)
    (covered : AreOfAccounts t (map name_of (map account_in accounts))) where
  abbrev Kept : Type 0
  Kept = SoundAccount t (map year_of_calendar calendars) read

  abbrev es : List Enrolled
  es = map account_in accounts

  abbrev names : List (List ℕ)
  names = map name_of es

  -- the account of a name
  at : (name : List ℕ) → Has names name → (p : Kept) × Has accounts p × (p.0.name ≡ name)
  at name has =
      let e = has_mapped name_of es name has in
      let p = has_mapped account_in accounts e.0 e.1 in
      (p.0, p.1, sym (e.2 ∙ ap name_of p.2))

  -- what is kept of it
  own_at : (name : List ℕ) → Has names name → (own : Entries) × HasEntered t name own
  own_at name has =
      let p = at name has in
      (p.0.1.own, subst (λ n. HasEntered t n p.0.1.own) p.2 p.0.1.entered)

  abbrev years_of : Kept → List (Entry (Unit {0}))
  years_of p = p.1.own.open_years

  years_named : (p : Kept) → AreNamed (name_in p) (years_of p)
  years_named p = p.1.entered.named.open_years

  all_open : List (Entry (Unit {0}))
  all_open = all_own name_in years_of years_named accounts

  reported_own : (name : List ℕ) → Has names name → (own : List (Entry Cents))
      × AreOwn entry_name (λ (r : ReportedQuarterRow). r.account) quarter_row (λ b e. refl)
      (λ b e. refl) one_quarter (t ReportedQuarters) name own
  reported_own name has =
      let own = own_at name has in (
        own.0.reported,
        record {
          each = own.1.named.reported;
          are = own.1.reported ∙ sym (plain_rows quarter_entry [] own.0.reported);
        },
      )

  reported_years_own : (name : List ℕ) → Has names name → (own : List (Entry Cents))
      × AreOwn entry_name (λ (r : ReportedYearRow). r.account) year_total_row (λ b e. refl)
      (λ b e. refl) one_year_total (t ReportedYears) name own
  reported_years_own name has =
      let own = own_at name has in (
        own.0.reported_years,
        record {
          each = own.1.named.reported_years;
          are = own.1.reported_years ∙ sym (plain_rows year_entry [] own.0.reported_years);
        },
      )

  runs_own : (name : List ℕ) → Has names name → (own : List (Entry (Voidable PayRun)))
      × AreOwn entry_name (λ (r : RunRow). r.account) kept_run_row (λ b e. refl) (λ b e. refl)
      one_run (t Runs) name own
  runs_own name has =
      let own = own_at name has in (
        own.0.runs,
        record {
          each = own.1.named.runs;
          are = own.1.runs ∙ sym (plain_rows run_entry [] own.0.runs);
        },
      )

  payments_own : (name : List ℕ) → Has names name → (own : List (Entry (Voidable Payment)))
      × AreOwn entry_name (λ (r : PaymentRow). r.account) kept_payment_row (λ b e. refl)
      (λ b e. refl) one_payment (t Payments) name own
  payments_own name has =
      let own = own_at name has in (
        own.0.payments,
        record {
          each = own.1.named.payments;
          are = own.1.payments ∙ sym (plain_rows payment_entry [] own.0.payments);
        },
      )

  corrected_own : (name : List ℕ) → Has names name → (own : List (Entry Cents))
      × AreOwn entry_name (λ (r : CorrectedQuarterRow). r.account) correction_entry (λ b e. refl)
      alone_correction one_correction (t CorrectedQuarters) name own
  corrected_own name has =
      let own = own_at name has in (
        own.0.corrected,
        record { each = own.1.named.corrected; are = own.1.corrected },
      )

  corrected_years_own : (name : List ℕ) → Has names name → (own : List (Entry Cents))
      × AreOwn entry_name (λ (r : CorrectedYearRow). r.account) year_correction_entry
      (λ b e. refl) alone_year_correction one_year_correction (t CorrectedYears) name own
  corrected_years_own name has =
      let own = own_at name has in (
        own.0.corrected_years,
        record { each = own.1.named.corrected_years; are = own.1.corrected_years },
      )

  moves_named : (name : List ℕ) (bs : List Beginning) (m : Move) → Has (map (move_to name) bs) m
      → m.name ≡ name
  moves_named name bs m has =
      let from = has_mapped (move_to name) bs m has in ap move_name from.2

  moved_own : (name : List ℕ) → Has names name → (own : List Move)
      × AreOwn move_name (λ (r : CorrectedAccountRow). r.account) account_correction_entry
      (λ b m. refl) alone_move one_move (t CorrectedAccounts) name own
  moved_own name has =
      let own = own_at name has in (
        map (move_to name) own.0.moves,
        record { each = moves_named name own.0.moves; are = own.1.moves },
      )

  -- the state
  all_reported : List (Entry Cents)
  all_reported = gathered entry_name (λ (r : ReportedQuarterRow). r.account) quarter_row
      (λ b e. refl) (λ b e. refl) one_quarter names (t ReportedQuarters) covered.reported
      reported_own

  all_reported_years : List (Entry Cents)
  all_reported_years = gathered entry_name (λ (r : ReportedYearRow). r.account) year_total_row
      (λ b e. refl) (λ b e. refl) one_year_total names (t ReportedYears) covered.reported_years
      reported_years_own

  all_runs : List (Entry (Voidable PayRun))
  all_runs = gathered entry_name (λ (r : RunRow). r.account) kept_run_row (λ b e. refl)
      (λ b e. refl) one_run names (t Runs) covered.runs runs_own

  all_payments : List (Entry (Voidable Payment))
  all_payments = gathered entry_name (λ (r : PaymentRow). r.account) kept_payment_row
      (λ b e. refl) (λ b e. refl) one_payment names (t Payments) covered.payments payments_own

  all_corrected : List (Entry Cents)
  all_corrected = gathered entry_name (λ (r : CorrectedQuarterRow). r.account) correction_entry
      (λ b e. refl) alone_correction one_correction names (t CorrectedQuarters) covered.corrected
      corrected_own

  all_corrected_years : List (Entry Cents)
  all_corrected_years = gathered entry_name (λ (r : CorrectedYearRow). r.account)
      year_correction_entry (λ b e. refl) alone_year_correction one_year_correction names
      (t CorrectedYears) covered.corrected_years corrected_years_own

  all_moved : List Move
  all_moved = gathered move_name (λ (r : CorrectedAccountRow). r.account)
      account_correction_entry (λ b m. refl) alone_move one_move names (t CorrectedAccounts)
      covered.moves moved_own

  pub the_state : State
  the_state = record {
    accounts = es;
    calendars = calendars;
    added_days = added;
    reported = all_reported;
    reported_years = all_reported_years;
    open_years = all_open;
    runs = all_runs;
    payments = all_payments;
    corrected = all_corrected;
    corrected_years = all_corrected_years;
    changed_days = changes;
    moved = all_moved;
  }

  -- ---- what the state keeps of each account

  own_reported : (name : List ℕ) (own : Entries) → HasEntered t name own
      → filter (is_of name) all_reported ≡ own.reported
  unfolding all_reported
  own_reported name own entered =
      own_gathered entry_name (λ (r : ReportedQuarterRow). r.account) quarter_row (λ b e. refl)
      (λ b e. refl) one_quarter names (t ReportedQuarters) covered.reported reported_own name
      own.reported (record {
        each = entered.named.reported;
        are = entered.reported ∙ sym (plain_rows quarter_entry [] own.reported);
      })

  own_reported_years : (name : List ℕ) (own : Entries) → HasEntered t name own
      → filter (is_of name) all_reported_years ≡ own.reported_years
  unfolding all_reported_years
  own_reported_years name own entered =
      own_gathered entry_name (λ (r : ReportedYearRow). r.account) year_total_row (λ b e. refl)
      (λ b e. refl) one_year_total names (t ReportedYears) covered.reported_years
      reported_years_own name own.reported_years (record {
        each = entered.named.reported_years;
        are = entered.reported_years ∙ sym (plain_rows year_entry [] own.reported_years);
      })

  own_runs : (name : List ℕ) (own : Entries) → HasEntered t name own
      → filter (is_of name) all_runs ≡ own.runs
  unfolding all_runs
  own_runs name own entered =
      own_gathered entry_name (λ (r : RunRow). r.account) kept_run_row (λ b e. refl)
      (λ b e. refl) one_run names (t Runs) covered.runs runs_own name own.runs (record {
        each = entered.named.runs;
        are = entered.runs ∙ sym (plain_rows run_entry [] own.runs);
      })

  own_payments : (name : List ℕ) (own : Entries) → HasEntered t name own
      → filter (is_of name) all_payments ≡ own.payments
  unfolding all_payments
  own_payments name own entered =
      own_gathered entry_name (λ (r : PaymentRow). r.account) kept_payment_row (λ b e. refl)
      (λ b e. refl) one_payment names (t Payments) covered.payments payments_own name own.payments
      (record {
        each = entered.named.payments;
        are = entered.payments ∙ sym (plain_rows payment_entry [] own.payments);
      })

  own_corrected : (name : List ℕ) (own : Entries) → HasEntered t name own
      → filter (is_of name) all_corrected ≡ own.corrected
  unfolding all_corrected
  own_corrected name own entered =
      own_gathered entry_name (λ (r : CorrectedQuarterRow). r.account) correction_entry
      (λ b e. refl) alone_correction one_correction names (t CorrectedQuarters) covered.corrected
      corrected_own name own.corrected
      (record { each = entered.named.corrected; are = entered.corrected })

  own_corrected_years : (name : List ℕ) (own : Entries) → HasEntered t name own
      → filter (is_of name) all_corrected_years ≡ own.corrected_years
  unfolding all_corrected_years
  own_corrected_years name own entered =
      own_gathered entry_name (λ (r : CorrectedYearRow). r.account) year_correction_entry
      (λ b e. refl) alone_year_correction one_year_correction names (t CorrectedYears)
      covered.corrected_years corrected_years_own name own.corrected_years
      (record { each = entered.named.corrected_years; are = entered.corrected_years })

  begun : (name : List ℕ) (bs : List Beginning) → map beginning_of (map (move_to name) bs) ≡ bs
  begun name [] = refl
  begun name (b ∷ bs) = ap (λ (more : List Beginning). b ∷ more) (begun name bs)

  own_moves : (name : List ℕ) (own : Entries) → HasEntered t name own
      → moves_in the_state name ≡ own.moves
  unfolding the_state all_moved
  own_moves name own entered =
      ap (map beginning_of) (own_gathered move_name (λ (r : CorrectedAccountRow). r.account)
      account_correction_entry (λ b m. refl) alone_move one_move names (t CorrectedAccounts)
      covered.moves moved_own name (map (move_to name) own.moves)
      (record { each = moves_named name own.moves; are = entered.moves }))
      ∙ begun name own.moves

  own_years : (p : Kept) → Has accounts p → filter (is_of (name_in p)) all_open ≡ p.1.own.open_years
  unfolding all_open
  own_years p has = own_of_all name_in years_of years_named accounts once p has

  enrolled_once : AreDistinct name_of es
  enrolled_once = once_in accounts once
    where
      once_in : (ps : List Kept) → AreDistinct name_in ps → AreDistinct name_of (map account_in ps)
      once_in [] apart = tt
      once_in (p ∷ ps) apart = (
        (λ later has same.
            let from = has_mapped account_in ps later has in
            apart.0 from.0 from.1 (sym (ap name_of from.2) ∙ same)),
        once_in ps apart.1,
      )

  enrolled_as : (p : Kept) → Has accounts p → enrolled_in the_state p.0.name ≡ Some p.0.account
  unfolding the_state
  enrolled_as p has = enrolled_is es p.0 enrolled_once (mapped_has account_in accounts p has)

  own_is : (p : Kept) → Has accounts p → entries_of the_state p.0.name ≡ p.1.own
  unfolding the_state
  own_is p has =
      let name = p.0.name in
      let own = p.1.own in
      let entered = p.1.entered in
      let enrolled : enrolled_in the_state name ≡ own.enrolled = enrolled_as p has
      ∙ sym p.1.enrolled in
      let moves = own_moves name own entered in
      entries_same (entries_of the_state name) own enrolled moves
      (ap (λ (o : Option Account). account_in_force o (moves_in the_state name)) enrolled
      ∙ ap (λ (bs : List Beginning). account_in_force own.enrolled bs) moves
      ∙ sym p.1.sound.in_force)
      (own_reported name own entered) (own_reported_years name own entered)
      (own_years p has) (own_runs name own entered) (own_payments name own entered)
      (own_corrected name own entered) (own_corrected_years name own entered)

  -- ---- the state is sound

  enrolled_there : (name : List ℕ) → Has names name → is_some (enrolled_in the_state name) ≡ true
  unfolding the_state
  enrolled_there name has =
      let p = at name has in
      find_there account_of (is_named name) es p.0.0 (mapped_has account_in accounts p.0 p.1)
      (subst (λ n. bytes_eq p.0.0.name n ≡ true) p.2 (own_name p.0.0.name))

  module _ (days_sound : AreDaysSound (record nothing {
    calendars = calendars;
    added_days = added;
    changed_days = changes;
  })) where
    parts : IsSoundByParts the_state
    unfolding the_state all_open all_reported all_reported_years all_runs all_payments all_corrected all_corrected_years all_moved
    parts = record {
      days = record {
        calendars = days_sound.calendars;
        are_calendars = days_sound.are_calendars;
        added_days = days_sound.added_days;
        few = days_sound.few;
        days_once = days_sound.days_once;
        changed = days_sound.changed;
        change_counts = days_sound.change_counts;
      };
      accounts = enrolled_once;
      of_enrolled = record {
        moved = λ m has. enrolled_there m.name (gathered_named move_name
            (λ (r : CorrectedAccountRow). r.account) account_correction_entry (λ b n. refl)
            alone_move one_move names (t CorrectedAccounts) covered.moves moved_own m has);
        reported = λ e has. enrolled_there e.name (gathered_named entry_name
            (λ (r : ReportedQuarterRow). r.account) quarter_row (λ b d. refl) (λ b d. refl)
            one_quarter names (t ReportedQuarters) covered.reported reported_own e has);
        reported_years = λ e has. enrolled_there e.name (gathered_named entry_name
            (λ (r : ReportedYearRow). r.account) year_total_row (λ b d. refl) (λ b d. refl)
            one_year_total names (t ReportedYears) covered.reported_years reported_years_own e
            has);
        corrected = λ e has. enrolled_there e.name (gathered_named entry_name
            (λ (r : CorrectedQuarterRow). r.account) correction_entry (λ b d. refl)
            alone_correction one_correction names (t CorrectedQuarters) covered.corrected
            corrected_own e has);
        corrected_years = λ e has. enrolled_there e.name (gathered_named entry_name
            (λ (r : CorrectedYearRow). r.account) year_correction_entry (λ b d. refl)
            alone_year_correction one_year_correction names (t CorrectedYears)
            covered.corrected_years corrected_years_own e has);
        open_years = λ e has.
            let p = all_own_named name_in years_of years_named accounts e has in
            enrolled_there e.name (subst (Has names) (sym p.2)
            (mapped_has name_of es p.0.0 (mapped_has account_in accounts p.0 p.1)));
        runs = λ e has. enrolled_there e.name (gathered_named entry_name
            (λ (r : RunRow). r.account) kept_run_row (λ b d. refl) (λ b d. refl) one_run names
            (t Runs) covered.runs runs_own e has);
        payments = λ e has. enrolled_there e.name (gathered_named entry_name
            (λ (r : PaymentRow). r.account) kept_payment_row (λ b d. refl) (λ b d. refl)
            one_payment names (t Payments) covered.payments payments_own e has);
      };
      each = λ e has.
          let p = has_mapped account_in accounts e has in
          let own = subst (IsOwnSound (map year_of_calendar calendars)) (sym (own_is p.0 p.1))
          p.0.1.sound in
          subst (IsAccountSound the_state) (sym p.2) (record { name = p.0.1.name; own = own });
    }

    pub state_sound : IsSound the_state
    state_sound = parts_sound the_state parts

    -- ---- the tables stand for it

    -- the form of an account of the name
    form_row_for : List ℕ → FormRow
    form_row_for name = form_row name (form_of (enrolled_in the_state name))

    form_rows : (ds : List Enrolled) → ((e : Enrolled) → Has ds e → Has es e)
        → map form_row_for (map name_of ds) ≡ map enrolled_form ds
    unfolding form_row_for the_state
    form_rows [] among = refl
    form_rows (e ∷ ds) among =
        ap (λ (a : Option Account). form_row e.name (form_of a) ∷ map form_row_for (map name_of ds))
        (enrolled_is es e enrolled_once (among e (inl refl)))
        ∙ ap (λ (rows : List FormRow). enrolled_form e ∷ rows)
        (form_rows ds (λ d has. among d (inr has)))

    one_form : (name : List ℕ) → Has names name
        → filter (λ (r : FormRow). bytes_eq r.account name) (t Forms) ≡ form_row_for name ∷ []
    unfolding form_row_for the_state
    one_form name has =
        let p = at name has in
        let e = p.0.0 in
        let entered = p.0.1.entered in
        let first : entered.first ≡ e.account = some_same (sym entered.enrolled
        ∙ p.0.1.enrolled) in
        let row : form_row e.name entered.first.form
        ≡ form_row e.name (form_of (enrolled_in the_state e.name)) =
        ap (λ (a : Account). form_row e.name a.form) first
        ∙ ap (λ (a : Option Account). form_row e.name (form_of a)) (sym (enrolled_as p.0 p.1)) in
        subst (λ (n : List ℕ). filter (λ (r : FormRow). bytes_eq r.account n) (t Forms)
        ≡ form_row n (form_of (enrolled_in the_state n)) ∷ []) p.2
        (entered.form ∙ ap (λ (r : FormRow). r ∷ []) row)
      where
        some_same : {X : Type 0} {a b : X} → ◌≡◌ {A = Option X} (Some a) (Some b) → a ≡ b
        some_same same = cc

    forms_are : IsPermutation (t Forms) (map enrolled_form es)
    forms_are =
        subst (IsPermutation (t Forms)) (form_rows es (λ e has. has))
        (single_rows (λ (r : FormRow). r.account) form_row_for names
        (names_once es enrolled_once) (t Forms)
        covered.forms one_form)

    module _ (mark : HasVersion (t Metas) 3)
        (knows : KnowsAll read t) where
      entries_kept : KeepsEntries t the_state
      unfolding the_state all_reported all_reported_years all_runs all_payments all_corrected all_corrected_years all_moved
      entries_kept = record {
        meta = mark;
        enrolled = record {
          accounts = accounts_are;
          forms = forms_are;
          moved = rows_gathered move_name (λ (r : CorrectedAccountRow). r.account)
              account_correction_entry (λ b m. refl) alone_move one_move names
              (t CorrectedAccounts) covered.moves moved_own;
        };
        figures = record {
          reported = rows_gathered entry_name (λ (r : ReportedQuarterRow). r.account) quarter_row
              (λ b e. refl) (λ b e. refl) one_quarter names (t ReportedQuarters) covered.reported
              reported_own ∙ plain_rows quarter_entry [] all_reported;
          reported_years = rows_gathered entry_name (λ (r : ReportedYearRow). r.account)
              year_total_row (λ b e. refl) (λ b e. refl) one_year_total names (t ReportedYears)
              covered.reported_years reported_years_own
              ∙ plain_rows year_entry [] all_reported_years;
          corrected = rows_gathered entry_name (λ (r : CorrectedQuarterRow). r.account)
              correction_entry (λ b e. refl) alone_correction one_correction names
              (t CorrectedQuarters) covered.corrected corrected_own;
          corrected_years = rows_gathered entry_name (λ (r : CorrectedYearRow). r.account)
              year_correction_entry (λ b e. refl) alone_year_correction one_year_correction names
              (t CorrectedYears) covered.corrected_years corrected_years_own;
        };
        days = days;
        paid = record {
          runs = rows_gathered entry_name (λ (r : RunRow). r.account) kept_run_row (λ b e. refl)
              (λ b e. refl) one_run names (t Runs) covered.runs runs_own
              ∙ plain_rows run_entry [] all_runs;
          payments = rows_gathered entry_name (λ (r : PaymentRow). r.account) kept_payment_row
              (λ b e. refl) (λ b e. refl) one_payment names (t Payments) covered.payments
              payments_own ∙ plain_rows payment_entry [] all_payments;
        };
      }

      -- the holidays that were read are those in force
      same_holidays : (day : ℕ) → 2001 ≤ year_of day → year_of day ≤ 2099
          → is_holiday (holidays the_state) day ≡ is_holiday read day
      same_holidays day from to =
          sym (knows the_state entries_kept.days state_sound day from to)

      -- an account that is not enrolled has no rows
      not_settled : (name : List ℕ) → (Has names name → ⊥) → IsSettled t the_state name
      unfolding the_state all_open
      not_settled name none =
          let no_years : filter (is_year_of name) (t Years) ≡ [] =
          filter_none (is_year_of name) (t Years) (λ r has is.
          none (subst (Has names) (same_text r.account name is) (covered.years r has))) in
          let no_owed : filter (is_obligation_of name) (t Obligations) ≡ [] =
          filter_none (is_obligation_of name) (t Obligations) (λ r has is.
          none (subst (Has names) (same_text r.account name is) (covered.obligations r has))) in
          let opened_none : filter (is_of name) all_open ≡ [] =
          none_left name_in years_of years_named accounts name
          (λ p has same. none (subst (Has names) same
          (mapped_has name_of es p.0 (mapped_has account_in accounts p has)))) in
          record {
            lines = [];
            are_lines = record {
              years = sym (ap (map year_of_entry) opened_none);
              lookbacks = λ line has. absurd has;
              carried = tt;
              schedules = record {
                years = (2001, (omega arith), (omega arith));
                schedules = λ line has. absurd has;
              };
            };
            owed = [];
            are_owed = record {
              by_first_day = tt;
              all = λ o. ((λ has. absurd has), (λ owed. absurd owed.open_year));
            };
            line_rows = subst (λ (rows : List YearRow). IsPermutation rows []) (sym no_years)
                (IsPermutation-refl []);
            owed_rows = subst (λ (rows : List ObligationRow). IsPermutation rows []) (sym no_owed)
                (IsPermutation-refl []);
          }

      settled_at : (p : Kept) → Has accounts p → IsSettled t the_state p.0.name
      settled_at p has =
          let own = p.1.own in
          let settled = p.1.settled in
          let are = settled.are_lines in
          let owed = obligations_by_all (form_of own.account) settled.lines (live_sums own)
          are.schedules read (holidays the_state) (few_in_force the_state state_sound.few)
          same_holidays settled.owed settled.are_owed in
          let same = sym (own_is p has) in
          record {
            lines = settled.lines;
            are_lines = subst (λ (o : Entries). AreLinesOf o settled.lines) same are;
            owed = settled.owed;
            are_owed = subst (λ (o : Entries). AreObligations (form_of o.account) settled.lines
                (live_sums o) (holidays the_state) settled.owed) same owed;
            line_rows = settled.line_rows;
            owed_rows = settled.owed_rows;
          }

      pub state_stands : StandsFor t the_state
      state_stands = record {
        entries = entries_kept;
        settled = λ name. elim (has_or_not names name) [
          | inl there ↦ (let p = at name there in
              subst (IsSettled t the_state) p.2 (settled_at p.0 p.1))
          | inr none ↦ not_settled name none
        ];
      }

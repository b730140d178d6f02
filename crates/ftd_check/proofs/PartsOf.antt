-- Where the tables stand for a sound state, each account has the rows of sound entries.
use Rattle.std.proofs.Common.{◌≡◌, ◌∙◌, ◌++◌, ◌≤◌, ℕ, inl, inr, refl, sym, ap, subst}
use Rattle.std.proofs.Common.{Bool, true, false, List, [], ◌∷◌, map, filter}
use Rattle.std.proofs.Common.{arith}
use Rattle.std.specs.Prelude.{bytes_eq, is_some}
use Rattle.std.specs.List.Sorted.{IsPermutation}
use Rattle.std.proofs.lemmas.List.Sorted.{IsPermutation-sym}
use Rattle.ftd_days.specs.Business.{is_holiday}
use Rattle.ftd_days.specs.Calendar.{year_of}
use Rattle.ftd_days.specs.Holidays.{AreFew}
use Rattle.ftd_days.proofs.Spelling.{same_text}
use Rattle.ftd_rules.specs.Lists.{Has}
use Rattle.ftd_rules.specs.declared.Obligation.{Obligation}
use Rattle.ftd_rules.specs.declared.YearLine.{YearLine}
use Rattle.ftd_rules.proofs.Rising.{has_permuted}
use Rattle.ftd_rules.proofs.Members.{has_kept, has_mapped, mapped_has, filter_in, filter_out}
use Rattle.ftd_sql.specs.Rows.{FormRow, ReportedQuarterRow, ReportedYearRow, YearRow, RunRow}
use Rattle.ftd_sql.specs.Rows.{PaymentRow, ObligationRow, CorrectedQuarterRow, CorrectedYearRow}
use Rattle.ftd_sql.specs.Rows.{CorrectedAccountRow}
use Rattle.ftd_sql.specs.Standing.{Tables}
use Rattle.ftd_sql.specs.Tests.{is_form_of, is_year_of}
use Rattle.ftd_sql.specs.declared.TableName.TheVariants.{Forms, CorrectedAccounts}
use Rattle.ftd_sql.specs.declared.TableName.TheVariants.{ReportedQuarters, ReportedYears}
use Rattle.ftd_sql.specs.declared.TableName.TheVariants.{CorrectedQuarters, CorrectedYears, Years}
use Rattle.ftd_sql.specs.declared.TableName.TheVariants.{Runs, Payments, Obligations}
use Rattle.ftd_store.specs.Rows.{form_row, year_row, obligation_row}
use Rattle.ftd_machine.specs.State.{State, Enrolled, Entry, Move, entries_of, enrolled_in}
use Rattle.ftd_machine.specs.State.{moves_in, is_of, is_named, is_move_of, account_of, beginning_of}
use Rattle.ftd_machine.specs.State.{holidays}
use Rattle.ftd_machine.specs.History.{form_of, live_sums, year_of_line, year_of_entry}
use Rattle.ftd_machine.specs.Sound.{IsSound, AreDistinct, name_of}
use Rattle.ftd_machine.proofs.Adding.{own_name}
use Rattle.ftd_machine.proofs.Found.{filter_none}
use Rattle.ftd_machine.proofs.JournalAccount.{enrolled_is}
use Rattle.ftd_machine.proofs.Members.{has_filtered, found_some, some_of}
use Rattle.ftd_entries.specs.Standing.{StandsFor, enrolled_form, quarter_entry, year_entry}
use Rattle.ftd_entries.specs.Standing.{run_entry, payment_entry, correction_entry}
use Rattle.ftd_entries.specs.Standing.{year_correction_entry, account_correction_entry}
use Rattle.ftd_entries.specs.Standing.{with_earlier, is_obligation_of}
use Rattle.ftd_entries.proofs.Permuted.{one_filtered}
use Rattle.ftd_sound.specs.Parts.{IsSoundByParts, given_years}
use Rattle.ftd_sound.proofs.Parted.{sound_by_parts}
use Rattle.ftd_check.specs.Holidays.{KnowsAll}
use Rattle.ftd_check.specs.Parts.{AreNamed, HasEntered, HasSettled, move_to}
use Rattle.ftd_check.specs.Whole.{IsSoundAccount, AreOfAccounts}
use Rattle.ftd_check.proofs.ByHolidays.{obligations_by_all}
use Rattle.ftd_check.proofs.Gathered.{has_or_not}
use Rattle.ftd_check.proofs.Numbered.{rows_of_name}
use Rattle.ftd_check.proofs.Rows.{entry_name, move_name, alone_correction, alone_year_correction}
use Rattle.ftd_check.proofs.Rows.{alone_move}
use Rattle.ftd_check.proofs.Whole.{filter_map}

-- the entries of an account have its name
own_named : {X : Type 0} (name : List ℕ) (xs : List (Entry X))
    → AreNamed name (filter (is_of name) xs)
own_named name xs e has = same_text e.name name (has_filtered (is_of name) xs e has).1

-- moves by their account and how it begins then
moves_back : (name : List ℕ) (ms : List Move) → ((m : Move) → Has ms m → m.name ≡ name)
    → map (move_to name) (map beginning_of ms) ≡ ms
moves_back name [] named = refl
moves_back name (m ∷ ms) named =
    let same : move_to name m.beginning ≡ m = λ i. record {
      name = sym (named m (inl refl)) i;
      beginning = m.beginning;
    } in
    ap (λ (x : Move). x ∷ map (move_to name) (map beginning_of ms)) same
    ∙ ap (λ (xs : List Move). m ∷ xs) (moves_back name ms (λ n has. named n (inr has)))

-- the one account of a name
one_enrolled : (es : List Enrolled) → AreDistinct name_of es → (e : Enrolled) → Has es e
    → filter (is_named e.name) es ≡ e ∷ []
one_enrolled [] once e has = absurd has
one_enrolled (d ∷ es) once e (inl is) =
    let none : filter (is_named d.name) es ≡ [] = filter_none (is_named d.name) es
    (λ x has same. once.0 x has (same_text x.name d.name same)) in
    let here : filter (is_named d.name) (d ∷ es) ≡ d ∷ [] =
    filter_in (is_named d.name) d es (own_name d.name)
    ∙ ap (λ (xs : List Enrolled). d ∷ xs) none in
    subst (λ (x : Enrolled). filter (is_named x.name) (d ∷ es) ≡ x ∷ []) (sym is) here
one_enrolled (d ∷ es) once e (inr has) =
    filter_out (is_named e.name) d es (other (is_named e.name d) refl)
    ∙ one_enrolled es once.1 e has
  where
    other : (b : Bool) → is_named e.name d ≡ b → b ≡ false
    other true is = absurd (once.0 e has (sym (same_text d.name e.name is)))
    other false is = refl

module _ (t : Tables) (s : State) (stands : StandsFor t s) (sound : IsSound s) where
  parts : IsSoundByParts s
  parts = sound_by_parts s sound

  -- ---- what was entered of an account

  own_moves : (name : List ℕ)
      → map (move_to name) (moves_in s name) ≡ filter (is_move_of name) s.moved
  own_moves name = moves_back name (filter (is_move_of name) s.moved)
      (λ m has. same_text m.name name (has_filtered (is_move_of name) s.moved m has).1)

  form_is : (e : Enrolled) → Has s.accounts e
      → filter (is_form_of e.name) (t Forms) ≡ form_row e.name e.account.form ∷ []
  form_is e has =
      let rows : filter (is_form_of e.name) (map enrolled_form s.accounts) ≡ enrolled_form e ∷ [] =
      filter_map (is_form_of e.name) enrolled_form s.accounts
      ∙ ap (map enrolled_form) (one_enrolled s.accounts sound.accounts e has) in
      one_filtered (is_form_of e.name) (map enrolled_form s.accounts) (t Forms)
      (enrolled_form e ∷ [])
      (IsPermutation-sym (t Forms) (map enrolled_form s.accounts) stands.entries.enrolled.forms)
      (omega arith) rows

  has_entered : (e : Enrolled) → Has s.accounts e → HasEntered t e.name (entries_of s e.name)
  has_entered e has =
      let name = e.name in
      let kept = stands.entries in
      record {
        named = record {
          reported = own_named name s.reported;
          reported_years = own_named name s.reported_years;
          open_years = own_named name s.open_years;
          runs = own_named name s.runs;
          payments = own_named name s.payments;
          corrected = own_named name s.corrected;
          corrected_years = own_named name s.corrected_years;
        };
        first = e.account;
        enrolled = enrolled_is s.accounts e sound.accounts has;
        form = form_is e has;
        moves = ap (filter (λ (r : CorrectedAccountRow). bytes_eq r.account name))
            kept.enrolled.moved
            ∙ rows_of_name move_name (λ (r : CorrectedAccountRow). r.account)
            account_correction_entry (λ b m. refl) alone_move name s.moved
            ∙ ap (λ (ms : List Move). map account_correction_entry (with_earlier [] ms))
            (sym (own_moves name));
        reported = ap (filter (λ (r : ReportedQuarterRow). bytes_eq r.account name))
            kept.figures.reported
            ∙ filter_map (λ (r : ReportedQuarterRow). bytes_eq r.account name) quarter_entry
            s.reported;
        reported_years = ap (filter (λ (r : ReportedYearRow). bytes_eq r.account name))
            kept.figures.reported_years
            ∙ filter_map (λ (r : ReportedYearRow). bytes_eq r.account name) year_entry
            s.reported_years;
        corrected = ap (filter (λ (r : CorrectedQuarterRow). bytes_eq r.account name))
            kept.figures.corrected
            ∙ rows_of_name entry_name (λ (r : CorrectedQuarterRow). r.account) correction_entry
            (λ b d. refl) alone_correction name s.corrected;
        corrected_years = ap (filter (λ (r : CorrectedYearRow). bytes_eq r.account name))
            kept.figures.corrected_years
            ∙ rows_of_name entry_name (λ (r : CorrectedYearRow). r.account)
            year_correction_entry (λ b d. refl) alone_year_correction name s.corrected_years;
        runs = ap (filter (λ (r : RunRow). bytes_eq r.account name)) kept.paid.runs
            ∙ filter_map (λ (r : RunRow). bytes_eq r.account name) run_entry s.runs;
        payments = ap (filter (λ (r : PaymentRow). bytes_eq r.account name)) kept.paid.payments
            ∙ filter_map (λ (r : PaymentRow). bytes_eq r.account name) payment_entry s.payments;
      }

  -- ---- each row is of an account that is enrolled

  names : List (List ℕ)
  names = map name_of s.accounts

  named_there : (name : List ℕ) → is_some (enrolled_in s name) ≡ true → Has names name
  unfolding names
  named_there name is =
      let found = some_of (enrolled_in s name) is in
      let e = found_some account_of (is_named name) s.accounts found.0 found.1 in
      subst (Has (map name_of s.accounts)) (same_text e.0.name name e.2)
      (mapped_has name_of s.accounts e.0 e.1)

  -- a row of an entry of an account that is enrolled
  row_named : {X R : Type 0} (rows : List R) (f : Entry X → R) (account : R → List ℕ)
      → ((e : Entry X) → account (f e) ≡ e.name) → (xs : List (Entry X)) → rows ≡ map f xs
      → ((e : Entry X) → Has xs e → is_some (enrolled_in s e.name) ≡ true)
      → (r : R) → Has rows r → Has names (account r)
  row_named {X = X} {R = R} rows f account same xs are all r has =
      let P : List R → Type 0 = λ (rs : List R). Has rs r in
      let e = has_mapped f xs r (subst P are has) in
      subst (Has names) (sym (ap account e.2 ∙ same e.0)) (named_there e.0.name (all e.0 e.1))

  -- a row among those with their earlier ones
  earlier_has : {E R : Type 0} (row : List E × E → R) (before es : List E) (r : R)
      → Has (map row (with_earlier before es)) r
      → (e : E) × Has es e × ((b : List E) × (r ≡ row (b, e)))
  earlier_has row before [] r has = absurd has
  earlier_has row before (e ∷ es) r (inl is) = (e, inl refl, (before, is))
  earlier_has row before (e ∷ es) r (inr has) =
      let rest = earlier_has row (before ++ e ∷ []) es r has in (rest.0, inr rest.1, rest.2)

  numbered_named : {E R : Type 0} (rows : List R) (row : List E × E → R) (account : R → List ℕ)
      (name : E → List ℕ) → ((b : List E) (e : E) → account (row (b, e)) ≡ name e)
      → (es : List E) → rows ≡ map row (with_earlier [] es)
      → ((e : E) → Has es e → is_some (enrolled_in s (name e)) ≡ true)
      → (r : R) → Has rows r → Has names (account r)
  numbered_named {R = R} rows row account name same es are all r has =
      let P : List R → Type 0 = λ (rs : List R). Has rs r in
      let e = earlier_has row [] es r (subst P are has) in
      subst (Has names) (sym (ap account e.2.1 ∙ same e.2.0 e.0)) (named_there (name e.0)
      (all e.0 e.1))

  -- of an account that is not enrolled no year is open, and nothing is owed
  no_lines : (name : List ℕ) → (Has names name → ⊥) → (stands.settled name).lines ≡ []
  no_lines name none =
      let settled = stands.settled name in
      let none_open : filter (is_of name) s.open_years ≡ [] = filter_none (is_of name) s.open_years
      (λ e has is. none (subst (Has names) (same_text e.name name is)
      (named_there e.name (parts.of_enrolled.open_years e has)))) in
      empty_of settled.lines (settled.are_lines.years ∙ ap (map year_of_entry) none_open)
    where
      empty_of : (lines : List YearLine) → map year_of_line lines ≡ [] → lines ≡ []
      empty_of [] is = refl
      empty_of (line ∷ lines) is = absurd cc

  no_rows : {X Y : Type 0} (rows : List X) (row : Y → X) (ys : List Y)
      → IsPermutation rows (map row ys) → ys ≡ [] → (x : X) → Has rows x → ⊥
  no_rows {X = X} rows row ys moved none x has =
      let P : List X → Type 0 = λ (xs : List X). Has xs x in
      subst P (ap (map row) none)
      (has_permuted (map row ys) rows (IsPermutation-sym rows (map row ys) moved) x has)

  year_named : (r : YearRow) → Has (t Years) r → Has names r.account
  year_named r has = elim (has_or_not names r.account) [
    | inl there ↦ there
    | inr none ↦ absurd (no_rows (filter (is_year_of r.account) (t Years)) (year_row r.account)
        (stands.settled r.account).lines (stands.settled r.account).line_rows
        (no_lines r.account none) r
        (has_kept (is_year_of r.account) (t Years) r has (own_name r.account)))
  ]

  nothing_owed : (name : List ℕ) → (Has names name → ⊥) → (stands.settled name).owed ≡ []
  nothing_owed name none =
      let settled = stands.settled name in
      empty settled.owed (λ o has.
      let is = (settled.are_owed.all o).0 has in
      subst (λ (lines : List YearLine). Has lines is.line) (no_lines name none) is.open_year)
    where
      empty : (os : List Obligation) → ((o : Obligation) → Has os o → ⊥) → os ≡ []
      empty [] never = refl
      empty (o ∷ os) never = absurd (never o (inl refl))

  obligation_named : (r : ObligationRow) → Has (t Obligations) r → Has names r.account
  obligation_named r has = elim (has_or_not names r.account) [
    | inl there ↦ there
    | inr none ↦ absurd (no_rows (filter (is_obligation_of r.account) (t Obligations))
        (obligation_row r.account) (stands.settled r.account).owed
        (stands.settled r.account).owed_rows (nothing_owed r.account none) r
        (has_kept (is_obligation_of r.account) (t Obligations) r has (own_name r.account)))
  ]

  form_named : (r : FormRow) → Has (t Forms) r → Has names r.account
  unfolding names
  form_named r has =
      let e = has_mapped enrolled_form s.accounts r
      (has_permuted (map enrolled_form s.accounts) (t Forms)
      (IsPermutation-sym (t Forms) (map enrolled_form s.accounts) stands.entries.enrolled.forms) r
      has) in
      subst (Has (map name_of s.accounts)) (sym (ap (λ (x : FormRow). x.account) e.2))
      (mapped_has name_of s.accounts e.0 e.1)

  pub rows_covered : AreOfAccounts t (map name_of s.accounts)
  unfolding names
  rows_covered =
      let kept = stands.entries in
      let of = parts.of_enrolled in
      record {
        forms = form_named;
        moves = numbered_named (t CorrectedAccounts) account_correction_entry
            (λ (r : CorrectedAccountRow). r.account) move_name (λ b m. refl) s.moved
            kept.enrolled.moved of.moved;
        reported = row_named (t ReportedQuarters) quarter_entry
            (λ (r : ReportedQuarterRow). r.account) (λ e. refl) s.reported kept.figures.reported
            of.reported;
        reported_years = row_named (t ReportedYears) year_entry
            (λ (r : ReportedYearRow). r.account) (λ e. refl) s.reported_years
            kept.figures.reported_years of.reported_years;
        corrected = numbered_named (t CorrectedQuarters) correction_entry
            (λ (r : CorrectedQuarterRow). r.account) entry_name (λ b e. refl) s.corrected
            kept.figures.corrected of.corrected;
        corrected_years = numbered_named (t CorrectedYears) year_correction_entry
            (λ (r : CorrectedYearRow). r.account) entry_name (λ b e. refl) s.corrected_years
            kept.figures.corrected_years of.corrected_years;
        years = year_named;
        runs = row_named (t Runs) run_entry (λ (r : RunRow). r.account) (λ e. refl) s.runs
            kept.paid.runs of.runs;
        payments = row_named (t Payments) payment_entry (λ (r : PaymentRow). r.account)
            (λ e. refl) s.payments kept.paid.payments of.payments;
        obligations = obligation_named;
      }

  -- ---- what follows from it

  module _ (read : List ℕ) (few : AreFew read) (knows : KnowsAll read t)
    where
      same_holidays : (day : ℕ) → 2001 ≤ year_of day → year_of day ≤ 2099
          → is_holiday read day ≡ is_holiday (holidays s) day
      same_holidays day from to =
          knows s stands.entries.days sound day from to

      has_settled : (name : List ℕ) → HasSettled t name (entries_of s name) read
      has_settled name =
          let settled = stands.settled name in
          record {
            lines = settled.lines;
            are_lines = settled.are_lines;
            owed = settled.owed;
            are_owed = obligations_by_all (form_of (entries_of s name).account) settled.lines
                (live_sums (entries_of s name)) settled.are_lines.schedules (holidays s) read few
                same_holidays settled.owed settled.are_owed;
            line_rows = settled.line_rows;
            owed_rows = settled.owed_rows;
          }

      pub account_sound : (e : Enrolled) → Has s.accounts e
          → IsSoundAccount t (given_years s) read e
      account_sound e has =
          let account = parts.each e has in
          record {
            name = account.name;
            own = entries_of s e.name;
            entered = has_entered e has;
            enrolled = enrolled_is s.accounts e sound.accounts has;
            sound = account.own;
            settled = has_settled e.name;
          }

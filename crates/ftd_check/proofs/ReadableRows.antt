-- The rows of entries that requests may have entered, and of what follows from them, can be read.
use Rattle.std.proofs.Common.{◌≡◌, ◌∙◌, ◌<◌, ◌≤◌, ◌^◌, ◌++◌, ℕ, inl, inr, refl, sym, ap, subst}
use Rattle.std.proofs.Common.{Bool, true, false, cond, suc, List, [], ◌∷◌, map, filter, length}
use Rattle.std.proofs.Common.{Option, None, Some}
use Rattle.std.proofs.Common.{arith, length-append, append_assoc}
use Rattle.std.proofs.lemmas.List.{length-map}
use Rattle.std.specs.Prelude.{nat_le, IfSome, ◌&&◌}
use Rattle.std.specs.List.{All}
use Rattle.std.specs.List.Sorted.{IsPermutation}
use Rattle.std.proofs.lemmas.Bool.{and_parts, leb-true, eqb-true, cases_Bool}
use Rattle.std.proofs.lemmas.List.Elements.{All-map, filter-append}
use Rattle.std.proofs.lemmas.List.Sorted.{All-permutation, IsPermutation-sym}
use Rattle.sqlite.specs.Order.{Row}
use Rattle.ftd_days.specs.Calendar.{year_of, quarter_year, last_day}
use Rattle.ftd_days.specs.declared.cents.Cents.{Cents}
use Rattle.ftd_days.specs.declared.limits.TheConstants.{QUARTERS}
use Rattle.ftd_days.proofs.Months.{day_in_years}
use Rattle.ftd_rules.specs.Lists.{Has}
use Rattle.ftd_rules.specs.Liability.{liability}
use Rattle.ftd_rules.specs.Private.Walk.{years_end}
use Rattle.ftd_rules.specs.declared.Obligation.{Obligation}
use Rattle.ftd_rules.specs.declared.YearLine.{YearLine}
use Rattle.ftd_rules.proofs.Covering.{line_is}
use Rattle.ftd_rules.proofs.Members.{filter_in, filter_out, has_mapped}
use Rattle.ftd_rules.proofs.Near.{due_near}
use Rattle.ftd_rules.proofs.Rising.{all_has}
use Rattle.ftd_rules.proofs.Schedules.{year_facts, turn_early}
use Rattle.ftd_rules.proofs.Stated.{due_by}
use Rattle.ftd_sql.specs.Answers.{form_shown, account_correction_shown}
use Rattle.ftd_sql.specs.Answers.{quarter_total_shown, year_total_shown, quarter_correction_shown}
use Rattle.ftd_sql.specs.Answers.{year_correction_shown, year_shown, kept_run_shown}
use Rattle.ftd_sql.specs.Answers.{kept_payment_shown, obligation_shown}
use Rattle.ftd_sql.specs.Standing.{Tables}
use Rattle.ftd_sql.specs.Tests.{is_form_of, is_account_correction_of, is_reported_of}
use Rattle.ftd_sql.specs.Tests.{is_reported_year_of, is_correction_of, is_year_correction_of}
use Rattle.ftd_sql.specs.Tests.{is_year_of, is_run_of, is_payment_of, is_obligation_of_account}
use Rattle.ftd_sql.specs.declared.TableName.TheVariants.{Forms, CorrectedAccounts}
use Rattle.ftd_sql.specs.declared.TableName.TheVariants.{ReportedQuarters, ReportedYears}
use Rattle.ftd_sql.specs.declared.TableName.TheVariants.{CorrectedQuarters, CorrectedYears}
use Rattle.ftd_sql.specs.declared.TableName.TheVariants.{Years, Runs, Payments, Obligations}
use Rattle.ftd_store.specs.AddedRows.{IsQuarterCorrectionCells, IsYearCorrectionCells}
use Rattle.ftd_store.specs.Cells.{IsFormCells, IsYearCells, IsObligationCells}
use Rattle.ftd_store.specs.CorrectionRows.{IsAccountCorrectionCells}
use Rattle.ftd_store.specs.KeptRows.{IsQuarterTotalCells, IsYearTotalCells}
use Rattle.ftd_store.specs.KeptRows.{IsNumberedRunCells, IsNumberedPaymentCells}
use Rattle.ftd_store.specs.Rows.{form_row, year_row, obligation_row}
use Rattle.ftd_store.specs.declared.year_cells.StoredYear.{StoredYear}
use Rattle.ftd_store.proofs.Readable.{form_readable, account_correction_readable}
use Rattle.ftd_store.proofs.Readable.{reported_readable, reported_year_readable}
use Rattle.ftd_store.proofs.Readable.{correction_readable, year_correction_readable, year_readable}
use Rattle.ftd_store.proofs.Readable.{run_readable, payment_readable, obligation_readable}
use Rattle.ftd_machine.specs.declared.entries.Account.{Account}
use Rattle.ftd_machine.specs.declared.entries.ReturnPeriod.{ReturnPeriod}
use Rattle.ftd_machine.specs.History.{live_sums}
use Rattle.ftd_machine.specs.Requests.{year_of_period}
use Rattle.ftd_machine.specs.State.{Entries, Entry, Move, all_at, kept_at, has_key, content_of}
use Rattle.ftd_machine.specs.State.{is_of}
use Rattle.ftd_machine.specs.State.{is_open, moves_of, is_move_of, beginning_of}
use Rattle.ftd_machine.proofs.Dated.{dated}
use Rattle.ftd_machine.proofs.Found.{has_here}
use Rattle.ftd_machine.proofs.Members.{some_of, found_some}
use Rattle.ftd_sound.specs.Own.{AreTotalsSound}
use Rattle.ftd_entries.specs.Standing.{quarter_entry, year_entry, run_entry, payment_entry}
use Rattle.ftd_entries.specs.Standing.{with_earlier, correction_entry, year_correction_entry}
use Rattle.ftd_entries.specs.Standing.{account_correction_entry, correction_of}
use Rattle.ftd_check.specs.OwnRows.{AreSoundRows}
use Rattle.ftd_check.specs.Parts.{move_to}

-- rows of values that show cells that can be read
values_readable : {X Y : Type 0} (row : Y → X) (shown : X → Row) (IsReadable : Row → Type 0)
    (ys : List Y) → ((y : Y) → Has ys y → IsReadable (shown (row y)))
    → All (λ x. IsReadable (shown x)) (map row ys)
values_readable row shown IsReadable ys each =
    All-map (λ x. IsReadable (shown x)) row ys
    (all_has (λ y. IsReadable (shown (row y))) ys each)

readable : {X Y : Type 0} (row : Y → X) (shown : X → Row) (IsReadable : Row → Type 0) (ys : List Y)
    (rows : List X) → rows ≡ map row ys → ((y : Y) → Has ys y → IsReadable (shown (row y)))
    → All IsReadable (map shown rows)
readable row shown IsReadable ys rows are each =
    subst (λ rs. All IsReadable (map shown rs)) (sym are)
    (All-map IsReadable shown (map row ys) (values_readable row shown IsReadable ys each))

readable_moved : {X Y : Type 0} (row : Y → X) (shown : X → Row) (IsReadable : Row → Type 0)
    (ys : List Y) (rows : List X) → IsPermutation rows (map row ys)
    → ((y : Y) → Has ys y → IsReadable (shown (row y))) → All IsReadable (map shown rows)
readable_moved row shown IsReadable ys rows moved each =
    All-map IsReadable shown rows
    (All-permutation (λ x. IsReadable (shown x)) (map row ys) rows
    (IsPermutation-sym rows (map row ys) moved) (values_readable row shown IsReadable ys each))

-- ---- years

between : (from to year : ℕ) → (nat_le from year && nat_le year to) ≡ true → year ≤ to
between from to year is =
    leb-true year to (and_parts (nat_le from year) (nat_le year to) is).1

known_day : (day : ℕ) → year_of day ≤ 2099 → day ≤ last_day
known_day day l = day_in_years day (omega arith)

known_quarter : (quarter : ℕ) → quarter_year quarter ≤ 2098 → quarter < QUARTERS
known_quarter quarter l = omega arith

-- ---- each with those before it

-- what came before one is a part of the whole
earlier_part : {X : Type 0} (before xs : List X) (p : List X × X) → Has (with_earlier before xs) p
    → (rest : List X) × (p.0 ++ p.1 ∷ rest ≡ before ++ xs)
earlier_part before [] p has = absurd has
earlier_part {X = X} before (x ∷ xs) p (inl is) =
    let first : p.0 ≡ before = ap (λ (q : List X × X). q.0) is in
    let second : p.1 ≡ x = ap (λ (q : List X × X). q.1) is in
    (xs, rw (first, second) refl)
earlier_part before (x ∷ xs) p (inr has) =
    let more = earlier_part (before ++ x ∷ []) xs p has in
    (more.0, more.1 ∙ append_assoc before (x ∷ []) xs)

earlier_member : {X : Type 0} (xs : List X) (p : List X × X) → Has (with_earlier [] xs) p
    → Has xs p.1
earlier_member {X = X} xs p has =
    let whole = earlier_part [] xs p has in
    subst (λ (ys : List X). Has ys p.1) whole.1 (has_here p.0 p.1 whole.0)

-- ---- how many there are

filter_few : {X : Type 0} (p : X → Bool) (xs : List X) → length (filter p xs) ≤ length xs
filter_few p [] = omega arith
filter_few p (x ∷ xs) = by (p x) (filter p xs) (filter_few p xs)
  where
    by : (b : Bool) (kept : List _) → length kept ≤ length xs
        → length (cond b (x ∷ kept) kept) ≤ suc (length xs)
    by true kept few = omega arith
    by false kept few = omega arith

filter_twice : {X : Type 0} (p q : X → Bool) (xs : List X)
    → length (filter p (filter q xs)) ≤ length (filter p xs)
filter_twice p q [] = omega arith
filter_twice {X = X} p q (x ∷ xs) = elim (cases_Bool (q x)) [
  | inl kept ↦ rw (filter_in q x xs kept) (by (p x) (filter_twice p q xs))
  | inr left ↦ rw (filter_out q x xs left) (more (p x) (filter_twice p q xs))
]
  where
    by : (b : Bool) → length (filter p (filter q xs)) ≤ length (filter p xs)
        → length (cond b (x ∷ filter p (filter q xs)) (filter p (filter q xs)))
        ≤ length (cond b (x ∷ filter p xs) (filter p xs))
    by true few = omega arith
    by false few = few

    more : (b : Bool) → length (filter p (filter q xs)) ≤ length (filter p xs)
        → length (filter p (filter q xs)) ≤ length (cond b (x ∷ filter p xs) (filter p xs))
    more true few = omega arith
    more false few = few

filter_front : {X : Type 0} (p : X → Bool) (xs ys : List X)
    → length (filter p xs) ≤ length (filter p (xs ++ ys))
filter_front p xs ys =
    let parts = ap length (filter-append p xs ys) in
    let sum = length-append (filter p xs) (filter p ys) in
    omega arith

-- of those before one there are no more of a key than of all
all_few : {X : Type 0} (key : ℕ) (name : List ℕ) (xs : List (Entry X))
    (p : List (Entry X) × Entry X) → Has (with_earlier [] xs) p
    → length (all_at key (filter (is_of name) p.0)) ≤ length (all_at key xs)
all_few {X = X} key name xs p has =
    let whole = earlier_part [] xs p has in
    let one = length-map (filter (has_key key) (filter (is_of name) p.0)) (content_of {X = X}) in
    let all = length-map (filter (has_key key) xs) (content_of {X = X}) in
    let fewer = filter_twice (has_key key) (is_of name) p.0 in
    let front = subst (λ (ys : List (Entry X)).
    length (filter (has_key key) p.0) ≤ length (filter (has_key key) ys)) whole.1
    (filter_front (has_key key) p.0 (p.1 ∷ whole.0)) in
    omega arith

moves_few : (name : List ℕ) (xs : List Move) (p : List Move × Move) → Has (with_earlier [] xs) p
    → length (moves_of name p.0) ≤ length xs
moves_few name xs p has =
    let whole = earlier_part [] xs p has in
    let one = length-map (filter (is_move_of name) p.0) beginning_of in
    let few = filter_few (is_move_of name) p.0 in
    let parts = length-append p.0 (p.1 ∷ whole.0) in
    let all : length (p.0 ++ p.1 ∷ whole.0) ≡ length xs = ap length whole.1 in
    omega arith

-- ---- totals

module _ {account : Option Account} {period : ℕ → ReturnPeriod}
    {reported corrected : List (Entry Cents)}
    (sound : AreTotalsSound account period reported corrected) where
  reported_year_of : (e : Entry Cents) → Has reported e → year_of_period (period e.key) ≤ 2098
  reported_year_of e has =
      between 1999 2098 (year_of_period (period e.key)) (sound.periods e has).in_years

  -- a total that is corrected was reported
  corrected_year_of : (e : Entry Cents) → Has corrected e → year_of_period (period e.key) ≤ 2098
  corrected_year_of e has =
      let some = some_of (kept_at e.key reported) (sound.corrected_ones e has) in
      let found = found_some content_of (has_key e.key) reported some.0 some.1 in
      let same : found.0.key ≡ e.key = eqb-true found.0.key e.key found.2 in
      subst (λ key. year_of_period (period key) ≤ 2098) same (reported_year_of found.0 found.1)

  corrected_number : (p : List (Entry Cents) × Entry Cents) → Has (with_earlier [] corrected) p
      → (correction_of p).number < 2 ^ 32
  corrected_number p has =
      let few = all_few p.1.key p.1.name corrected p has in
      let most = sound.counts p.1.key in
      omega arith

-- ---- the rows of each table

module _ (t : Tables) (name : List ℕ) (own : Entries) (given holidays : List ℕ)
    (are : AreSoundRows t name own given holidays) where
  open_year : (year : ℕ) → is_open own year ≡ true → year ≤ 2098
  open_year year open_is =
      let some = some_of (kept_at year own.open_years) open_is in
      let found = found_some content_of (has_key year) own.open_years some.0 some.1 in
      let same : found.0.key ≡ year = eqb-true found.0.key year found.2 in
      let its = between 2001 2098 found.0.key
      (are.sound.open_years.each found.0 found.1).is_open_year in
      omega arith

  pub forms_read : All IsFormCells (map form_shown (filter (is_form_of name) (t Forms)))
  forms_read = readable (form_row name) form_shown IsFormCells (are.entered.first.form ∷ [])
      (filter (is_form_of name) (t Forms)) are.entered.form (λ form has. form_readable name form)

  pub moves_read : All IsAccountCorrectionCells (map account_correction_shown
      (filter (is_account_correction_of name) (t CorrectedAccounts)))
  moves_read =
      let moves : List Move = map (move_to name) own.moves in
      readable account_correction_entry account_correction_shown IsAccountCorrectionCells
      (with_earlier [] moves) (filter (is_account_correction_of name) (t CorrectedAccounts))
      are.entered.moves
      (λ p has.
      (let few = moves_few p.1.name moves p has in
      let long = length-map own.moves (move_to name) in
      let most = are.sound.starts.move_counts in
      let its = has_mapped (move_to name) own.moves p.1 (earlier_member moves p has) in
      let year : year_of p.1.beginning.start ≤ 2098 =
      subst (λ (m : Move). year_of m.beginning.start ≤ 2098) (sym its.2)
      (leb-true (year_of its.0.start) 2098 (are.sound.starts.moves its.0 its.1)) in
      account_correction_readable p.1.name _ (omega arith)
      (known_day p.1.beginning.start (omega arith))))

  pub reported_read : All IsQuarterTotalCells (map quarter_total_shown
      (filter (is_reported_of name) (t ReportedQuarters)))
  reported_read = readable quarter_entry quarter_total_shown IsQuarterTotalCells own.reported
      (filter (is_reported_of name) (t ReportedQuarters)) are.entered.reported
      (λ e has. reported_readable e.name (record { quarter = e.key; cents = e.content })
      (known_quarter e.key (reported_year_of are.sound.quarters e has)))

  pub reported_years_read : All IsYearTotalCells (map year_total_shown
      (filter (is_reported_year_of name) (t ReportedYears)))
  reported_years_read = readable year_entry year_total_shown IsYearTotalCells own.reported_years
      (filter (is_reported_year_of name) (t ReportedYears)) are.entered.reported_years
      (λ e has.
      (let year = reported_year_of are.sound.years e has in
      reported_year_readable e.name (record { year = e.key; cents = e.content }) (omega arith)))

  pub corrected_read : All IsQuarterCorrectionCells (map quarter_correction_shown
      (filter (is_correction_of name) (t CorrectedQuarters)))
  corrected_read = readable correction_entry quarter_correction_shown IsQuarterCorrectionCells
      (with_earlier [] own.corrected) (filter (is_correction_of name) (t CorrectedQuarters))
      are.entered.corrected
      (λ p has. correction_readable p.1.name
      (record { quarter = p.1.key; correction = correction_of p })
      (known_quarter p.1.key
      (corrected_year_of are.sound.quarters p.1 (earlier_member own.corrected p has)))
      (corrected_number are.sound.quarters p has))

  pub corrected_years_read : All IsYearCorrectionCells (map year_correction_shown
      (filter (is_year_correction_of name) (t CorrectedYears)))
  corrected_years_read = readable year_correction_entry year_correction_shown
      IsYearCorrectionCells (with_earlier [] own.corrected_years)
      (filter (is_year_correction_of name) (t CorrectedYears)) are.entered.corrected_years
      (λ p has.
      (let year = corrected_year_of are.sound.years p.1
      (earlier_member own.corrected_years p has) in
      year_correction_readable p.1.name (record { year = p.1.key; correction = correction_of p })
      (omega arith) (corrected_number are.sound.years p has)))

  pub runs_read : All IsNumberedRunCells (map kept_run_shown
      (filter (is_run_of name) (t Runs)))
  runs_read = readable run_entry kept_run_shown IsNumberedRunCells own.runs
      (filter (is_run_of name) (t Runs)) are.entered.runs
      (λ e has.
      (let its = are.sound.runs.each e has in
      let small = between 1 999_999_999 e.key its.number in
      let year = open_year (year_of e.content.value.payday) its.payday in
      run_readable e.name (record { number = e.key; run = e.content }) (omega arith)
      (known_day e.content.value.payday (omega arith))))

  pub payments_read : All IsNumberedPaymentCells (map kept_payment_shown
      (filter (is_payment_of name) (t Payments)))
  payments_read = readable payment_entry kept_payment_shown IsNumberedPaymentCells own.payments
      (filter (is_payment_of name) (t Payments)) are.entered.payments
      (λ e has.
      (let its = are.sound.payments.each e has in
      let small = between 1 999_999_999 e.key its.number in
      let paid = between 2001 2099 (year_of e.content.value.paid) its.paid_in in
      let year = open_year (year_of e.content.value.for_day) its.for_day in
      payment_readable e.name (record { number = e.key; payment = e.content }) (omega arith)
      (known_day e.content.value.paid paid) (known_day e.content.value.for_day (omega arith))))

  -- ---- what follows from them

  abbrev stored : YearLine → StoredYear
  stored line = record {
    year = line.year;
    lookback = line.lookback;
    opening = line.opening;
    turn = line.turn;
  }

  turn_known : (turn : Option ℕ) → IfSome turn (λ day. day < years_end)
      → IfSome turn (λ day. day ≤ last_day)
  turn_known None early = tt
  turn_known (Some day) early = omega arith

  line_read : (line : YearLine) → Has are.settled.lines line
      → IsYearCells (year_shown (year_row name line))
  line_read line has =
      let settled = are.settled in
      let schedules = settled.are_lines.schedules in
      let its = line_is settled.lines (live_sums own) line schedules has in
      let top = its.1 in
      let facts = year_facts line.year its.0 its.1 in
      year_readable name (stored line) (omega arith) (turn_known line.turn
      (turn_early _ (liability (live_sums own)) line facts.2 (schedules.schedules line has)))

  pub years_read : All IsYearCells (map year_shown (filter (is_year_of name) (t Years)))
  years_read = readable_moved (year_row name) year_shown IsYearCells are.settled.lines
      (filter (is_year_of name) (t Years)) are.settled.line_rows line_read

  obligation_read : (o : Obligation) → Has are.settled.owed o
      → IsObligationCells (obligation_shown (obligation_row name o))
  obligation_read o has =
      let settled = are.settled in
      let its = dated holidays own settled.owed (
        settled.lines,
        settled.are_lines,
        settled.are_owed,
      ) o has in
      let top = its.to_2098 in
      let begins = its.begins in
      let ends = its.ends in
      let one = (settled.are_owed.all o).0 has in
      let due = due_near holidays o.rule o.last o.due are.few (omega arith)
      (due_by holidays o.rule o.last o.due one.due) in
      obligation_readable name o (known_day o.first (omega arith)) (known_day o.last (omega arith))
      due.1.1

  pub obligations_read : All IsObligationCells (map obligation_shown
      (filter (is_obligation_of_account name) (t Obligations)))
  obligations_read = readable_moved (obligation_row name) obligation_shown IsObligationCells
      are.settled.owed (filter (is_obligation_of_account name) (t Obligations))
      are.settled.owed_rows obligation_read

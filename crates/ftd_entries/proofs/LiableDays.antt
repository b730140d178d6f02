-- The day sums that were read are the liability of the account's live runs, day by day.
use Rattle.std.proofs.Common.{◌≡◌, ◌⊎◌, ◌↔◌, ℕ, ℤ, pos, ◌+◌, ◌<◌, ◌≤◌, ◌==◌, ◌&&◌, not, cond}
use Rattle.std.proofs.Common.{Bool, true, false, List, [], ◌∷◌, map, Vec, inl, inr, refl, sym, ap}
use Rattle.std.proofs.Common.{subst, ◌∙◌, arith}
use Rattle.std.specs.Prelude.{filter, bytes_eq, int_le}
use Rattle.std.specs.Ordering.{int_eq}
use Rattle.std.specs.List.{sum_by}
use Rattle.std.proofs.lemmas.Bool.{cases_Bool, eqb-true, and_parts, cases_lt}
use Rattle.std.proofs.lemmas.Int.{ints}
use Rattle.std.proofs.lemmas.List.Sums.{sum_by-cons}
use Rattle.std.proofs.lemmas.List.Sorted.{sum_by-IsPermutation}
use Rattle.ftd_days.specs.Calendar.{quarter_year, quarter_start}
use Rattle.ftd_rules.specs.declared.DaySum.{DaySum}
use Rattle.ftd_rules.specs.declared.run.PayRun.{PayRun}
use Rattle.ftd_rules.specs.declared.run.Voidable.{Voidable}
use Rattle.ftd_rules.specs.Liability.{share, liability}
use Rattle.ftd_rules.specs.Lists.{Has, KeysRise}
use Rattle.ftd_rules.proofs.Rising.{has_all}
use Rattle.ftd_rules.proofs.Members.{kept_sum}
use Rattle.ftd_sql.specs.Rows.{RunRow}
use Rattle.ftd_sql.specs.Standing.{Tables}
use Rattle.ftd_sql.specs.Tests.{is_live_run_between}
use Rattle.ftd_store.specs.Cells.{day_number}
use Rattle.ftd_store.specs.Rows.{run_row}
use Rattle.ftd_store.specs.Lists.{Pairs}
use Rattle.ftd_store.specs.DaySums.{owed_on, IsLiveRun}
use Rattle.ftd_store.proofs.DaySums.{owed_is}
use Rattle.ftd_store.specs.Finds.{ListsLiability}
use Rattle.ftd_machine.specs.State.{State, Entry, entries_of, is_of}
use Rattle.ftd_machine.specs.History.{is_live, live, liability_of, live_sums}
use Rattle.ftd_machine.specs.Asking.{day_of_sum, IsLiableDay}
use Rattle.ftd_entries.specs.Standing.{StandsFor, run_entry}
use Rattle.ftd_entries.proofs.CalendarRows.{whole}
use Rattle.ftd_entries.proofs.DayCells.{same_day}
use Rattle.ftd_entries.proofs.QuarterDays.{in_quarter, of_quarter}
use Rattle.ftd_entries.proofs.KeptSums.{none_of, live_cell}
use Rattle.ftd_entries.proofs.Rising.{keys_rise, sum_of_its_day, sum_of_day}

-- ---- days as cells

le_cells : (a b : ℕ) → a ≤ b → int_le (day_number a) (day_number b) ≡ true
le_cells a b less = by (int_le (day_number a) (day_number b)) refl
  where
    by : (t : Bool) → int_le (day_number a) (day_number b) ≡ t → t ≡ true
    by true e = refl
    by false e = absurd (omega (arith, ints))

cells_le : (a b : ℕ) → int_le (day_number a) (day_number b) ≡ true → a ≤ b
cells_le a b e = omega (arith, ints)

-- ---- one run

module _ (name : List ℕ) (from to day : ℕ) where
  abbrev Test : RunRow → Bool
  Test = is_live_run_between name (day_number from) (day_number to)

  -- what a row adds to the day
  abbrev row_owed : RunRow → ℕ
  row_owed r = cond (int_eq r.payday (day_number day)) (whole r.fit + whole r.ss + whole r.medicare)
      0

  row_is : (number : ℤ) (r : PayRun) (voided : Bool) → row_owed (run_row name number r voided)
      ≡ owed_on day r
  row_is number r voided = rw (same_day r.payday day) refl

  row_shared : (e : Entry (Voidable PayRun)) → row_owed (run_entry e) ≡ share day day
      (liability_of e.content.value)
  row_shared e = row_is (pos e.key) e.content.value e.content.voided
      ∙ sym (owed_is day e.content.value)

  same_of : (a b c d : Bool) (n : ℕ) → b ≡ true → c ≡ true → cond (a && (b && (c && d))) n 0
      ≡ cond a (cond d n 0) 0
  same_of true b c d n eb ec = rw (eb, ec) refl
  same_of false b c d n eb ec = refl

  -- on a day between the two
  run_in : from ≤ day → day ≤ to → (e : Entry (Voidable PayRun))
      → cond (Test (run_entry e)) (row_owed (run_entry e)) 0 ≡ cond (is_of name e)
      (cond (is_live e) (share day day (liability_of e.content.value)) 0) 0
  run_in low high e = elim (cases_Bool (e.content.value.payday == day)) [
    | inl its ↦
        let same : e.content.value.payday ≡ day = eqb-true e.content.value.payday day its in
        same_of (bytes_eq e.name name) _ _ _ (row_owed (run_entry e))
        (le_cells from e.content.value.payday (omega arith))
        (le_cells e.content.value.payday to (omega arith))
        ∙ ap (λ b. cond (bytes_eq e.name name) (cond b (row_owed (run_entry e)) 0) 0)
        (live_cell e.content.voided)
        ∙ ap (λ n. cond (bytes_eq e.name name) (cond (not e.content.voided) n 0) 0) (row_shared e)
    | inr other ↦
        let none : row_owed (run_entry e) ≡ 0 =
        ap (λ b. cond b (whole (run_entry e).fit + whole (run_entry e).ss + whole
        (run_entry e).medicare) 0) (same_day e.content.value.payday day ∙ other) in
        let shared : share day day (liability_of e.content.value) ≡ 0 = sym (row_shared e) ∙ none in
        none_of (Test (run_entry e)) (row_owed (run_entry e)) none
        ∙ sym (none_of (is_of name e)
        (cond (is_live e) (share day day (liability_of e.content.value)) 0)
        (none_of (is_live e) (share day day (liability_of e.content.value)) shared))
  ]

  -- on another day
  run_out : (day < from) ⊎ (to < day) → (e : Entry (Voidable PayRun)) → cond (Test (run_entry e))
      (row_owed (run_entry e)) 0 ≡ 0
  run_out outside e = elim (cases_Bool (e.content.value.payday == day)) [
    | inl its ↦ elim (cases_Bool (Test (run_entry e))) [
      | inl passes ↦
          let same : e.content.value.payday ≡ day = eqb-true e.content.value.payday day its in
          let a = and_parts (bytes_eq e.name name) _ passes in
          let b = and_parts (int_le (day_number from) (day_number e.content.value.payday)) _ a.1 in
          let c = and_parts (int_le (day_number e.content.value.payday) (day_number to)) _ b.1 in
          let low = cells_le from e.content.value.payday b.0 in
          let high = cells_le e.content.value.payday to c.0 in
          absurd (elim outside [ inl before ↦ omega arith | inr after ↦ omega arith ])
      | inr fails ↦ ap (λ b. cond b (row_owed (run_entry e)) 0) fails
    ]
    | inr other ↦
        none_of (Test (run_entry e)) (row_owed (run_entry e))
        (ap (λ b. cond b (whole (run_entry e).fit + whole (run_entry e).ss + whole
        (run_entry e).medicare) 0) (same_day e.content.value.payday day ∙ other))
  ]

  -- ---- all runs

  abbrev own_sums : List (Entry (Voidable PayRun)) → List DaySum
  own_sums es = map liability_of (live (filter (is_of name) es))

  one_more : (e : Entry (Voidable PayRun)) (es : List (Entry (Voidable PayRun)))
      → liability (own_sums (e ∷ es)) day day ≡ cond (is_of name e)
      (cond (is_live e) (share day day (liability_of e.content.value)) 0) 0 + liability
      (own_sums es) day day
  one_more e es = elim (cases_Bool (is_of name e)) [
    | inl own ↦ elim (cases_Bool (is_live e)) [
      | inl lives ↦ rw (own, lives) (sum_by-cons (share day day) (liability_of e.content.value)
          (own_sums es))
      | inr dead ↦ rw (own, dead) (omega arith)
    ]
    | inr apart ↦ rw apart (omega arith)
  ]

  sums_in : from ≤ day → day ≤ to → (es : List (Entry (Voidable PayRun)))
      → sum_by row_owed (filter Test (map run_entry es)) ≡ liability (own_sums es) day day
  sums_in low high [] = refl
  sums_in low high (e ∷ es) =
      kept_sum Test row_owed (run_entry e) (map run_entry es)
      ∙ ap (λ n. n + sum_by row_owed (filter Test (map run_entry es))) (run_in low high e)
      ∙ ap (λ n. cond (is_of name e)
      (cond (is_live e) (share day day (liability_of e.content.value)) 0) 0 + n)
      (sums_in low high es)
      ∙ sym (one_more e es)

  paired_sum : (rows : List RunRow) (runs : List PayRun) → Pairs (IsLiveRun name) rows runs
      → sum_by row_owed rows ≡ sum_by (owed_on day) runs
  paired_sum [] [] pairs = refl
  paired_sum [] (r ∷ runs) pairs = absurd pairs
  paired_sum (row ∷ rows) [] pairs = absurd pairs
  paired_sum (row ∷ rows) (r ∷ runs) pairs =
      let one : row_owed row ≡ owed_on day r = ap row_owed pairs.0.1 ∙ row_is pairs.0.0 r false in
      let more = paired_sum rows runs pairs.1 in
      let left = sum_by-cons row_owed row rows in
      let right = sum_by-cons (owed_on day) r runs in
      omega arith

  sums_out : (day < from) ⊎ (to < day) → (es : List (Entry (Voidable PayRun)))
      → sum_by row_owed (filter Test (map run_entry es)) ≡ 0
  sums_out outside [] = refl
  sums_out outside (e ∷ es) =
      let first = kept_sum Test row_owed (run_entry e) (map run_entry es) in
      let here = run_out outside e in
      let rest = sums_out outside es in
      omega arith

module _ {A : Type 0} (name : List ℕ) (from to : ℕ) (sums : Vec DaySum A) (t : Tables) (s : State)
    (stands : StandsFor t s) (lists : ListsLiability name from to sums t) where
  abbrev Of : List DaySum
  Of = live_sums (entries_of s name)

  by_rows : (day : ℕ) → liability sums.items day day ≡ sum_by (row_owed name from to day)
      (filter (Test name from to day) (map run_entry s.runs))
  by_rows day =
      lists.total day
      ∙ sym (paired_sum name from to day lists.listed.ordered lists.runs lists.listed.pairs)
      ∙ sum_by-IsPermutation (row_owed name from to day) _ lists.listed.ordered lists.listed.same
      ∙ ap (λ rows. sum_by (row_owed name from to day) (filter (Test name from to day) rows))
      stands.entries.paid.runs

  pub liable_in : (day : ℕ) → from ≤ day → day ≤ to → liability sums.items day day ≡ liability Of
      day day
  liable_in day low high = by_rows day ∙ sums_in name from to day low high s.runs

  liable_out : (day : ℕ) → (day < from) ⊎ (to < day) → liability sums.items day day ≡ 0
  liable_out day outside = by_rows day ∙ sums_out name from to day outside s.runs

  pub rise : KeysRise day_of_sum sums.items
  rise = keys_rise day_of_sum sums.items lists.rise

  -- a sum is of a day between the two, and is its liability
  pub sum_is : (x : DaySum) → Has sums.items x → (from ≤ x.day) × (x.day ≤ to)
      × (x.cents.0 ≡ liability Of x.day x.day) × (0 < x.cents.0)
  sum_is x has =
      let some : 0 < x.cents.0 = has_all (λ (y : DaySum). 0 < y.cents.0) sums.items lists.positive x
      has in
      let its = sum_of_its_day sums.items rise x has in
      elim (cases_lt x.day from) [
        | inl before ↦ absurd (let none = liable_out x.day (inl before) in omega arith)
        | inr low ↦ elim (cases_lt to x.day) [
          | inl after ↦ absurd (let none = liable_out x.day (inr after) in omega arith)
          | inr high ↦ (low, high, sym its ∙ liable_in x.day low high, some)
        ]
      ]

  -- each day between the two that has liability has its sum
  pub is_sum : (x : DaySum) → from ≤ x.day → x.day ≤ to → x.cents.0 ≡ liability Of x.day x.day
      → 0 < x.cents.0 → Has sums.items x
  is_sum x low high is some =
      let here = liable_in x.day low high in
      let found = sum_of_day sums.items x.day (omega arith) in
      let its = sum_of_its_day sums.items rise found.0 found.1 in
      let cents : x.cents.0 ≡ found.0.cents.0 = is ∙ sym here ∙ ap (λ d. liability sums.items d d)
      (sym found.2) ∙ its in
      let same : x ≡ found.0 = λ i. record {
        day = sym found.2 i;
        cents = record { 0 = cents i };
      } in
      subst (Has sums.items) (sym same) found.1

-- the sums of a quarter's days are its liable days
module _ {A : Type 0} (name : List ℕ) (quarter last : ℕ) (sums : Vec DaySum A) (t : Tables)
    (s : State) (stands : StandsFor t s) (is_last : last + 1 ≡ quarter_start (quarter + 1))
    (lists : ListsLiability name (quarter_start quarter) last sums t) where
  pub liable_days : quarter_year quarter ≤ 2098 → (x : DaySum) → Has sums.items x ↔ IsLiableDay
      (entries_of s name) quarter x
  liable_days early x = (
    (λ has. (let is = sum_is name (quarter_start quarter) last sums t s stands lists x has in
        (of_quarter quarter last is_last x.day early is.0 is.1, is.2, is.3))),
    (λ is. (let within = in_quarter quarter last is_last x.day early is.0 in
        is_sum name (quarter_start quarter) last sums t s stands lists x within.0 within.1 is.1
        is.2)),
  )

  pub days_rise : KeysRise day_of_sum sums.items
  days_rise = rise name (quarter_start quarter) last sums t s stands lists

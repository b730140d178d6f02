-- The liability that an account's entries of runs make, day by day.
use Rattle.std.proofs.Common.{◌≡◌, ◌≢◌, ℕ, ℤ, pos, ◌+◌, ◌≤◌, inl, inr, List, [], ◌∷◌, ◌++◌, map}
use Rattle.std.proofs.Common.{Bool, true, false, cond, not, ◌&&◌, refl, sym, ap, ◌∙◌, arith}
use Rattle.std.specs.Prelude.{filter, nat_le, int_le, if◌then◌else◌}
use Rattle.std.specs.List.{sum_by}
use Rattle.std.specs.Ordering.{int_eq}
use Rattle.std.proofs.lemmas.Bool.{cases_Bool, le-leb}
use Rattle.std.proofs.lemmas.List.Sums.{sum_by-cons, sum_by-append}
use Rattle.std.proofs.lemmas.List.Sorted.{sum_by-IsPermutation}
use Rattle.ftd_days.proofs.Years.{eq_not, same_or_not}
use Rattle.ftd_rules.specs.declared.DaySum.{DaySum}
use Rattle.ftd_rules.specs.declared.run.PayRun.{PayRun}
use Rattle.ftd_rules.specs.declared.run.Voidable.{Voidable}
use Rattle.ftd_rules.specs.Liability.{liability}
use Rattle.ftd_rules.specs.Lists.{Has}
use Rattle.ftd_rules.proofs.Adding.{runs_same}
use Rattle.ftd_rules.proofs.Walk.{liability-cons}
use Rattle.ftd_rules.proofs.Members.{filter_in, filter_out, kept_sum}
use Rattle.ftd_sql.specs.Rows.{RunRow}
use Rattle.ftd_sql.specs.Tests.{is_live_run_between}
use Rattle.ftd_sql.specs.Orders.{RunsRise}
use Rattle.ftd_store.specs.Cells.{day_number, flag_number}
use Rattle.ftd_store.specs.Lists.{Pairs}
use Rattle.ftd_store.specs.Rows.{run_row}
use Rattle.ftd_store.specs.DaySums.{owed_on, IsLiveRun, ListsDaySums}
use Rattle.ftd_store.proofs.DaySums.{owed_is}
use Rattle.ftd_machine.specs.State.{Entry, is_of}
use Rattle.ftd_machine.specs.History.{liability_of, live, is_live, value_of}
use Rattle.ftd_machine.specs.Step.{with_entry, with_voided, voided_if, is_under, as_voided, taken}
use Rattle.ftd_entries.specs.Standing.{run_entry}
use Rattle.ftd_entries.proofs.CalendarRows.{whole}
use Rattle.ftd_entries.proofs.DayCells.{day_le, same_day}

-- ---- by entries

-- what an entry adds to the liability of a day
abbrev pub adds : ℕ → Entry (Voidable PayRun) → ℕ
adds day e = if e.content.voided then 0 else owed_on day e.content.value

adds_none : (day : ℕ) (e : Entry (Voidable PayRun)) → e.content.voided ≡ true → adds day e ≡ 0
adds_none day e void = ap (λ v. if v then 0 else owed_on day e.content.value) void

adds_live : (day : ℕ) (e : Entry (Voidable PayRun)) → e.content.voided ≡ false
    → adds day e ≡ owed_on day e.content.value
adds_live day e not_void = ap (λ v. if v then 0 else owed_on day e.content.value) not_void

pub day_liability : (day : ℕ) (xs : List (Entry (Voidable PayRun)))
    → liability (map liability_of (live xs)) day day ≡ sum_by (adds day) xs
day_liability day [] = refl
day_liability day (e ∷ xs) =
    let rest = day_liability day xs in
    let cons = sum_by-cons (adds day) e xs in
    let of_live : List (Entry (Voidable PayRun)) → ℕ =
    λ es. liability (map liability_of (map value_of es)) day day in
    elim (cases_Bool e.content.voided) [
      | inl void ↦
          (let same : of_live (filter is_live (e ∷ xs)) ≡ of_live (filter is_live xs) =
          ap of_live (filter_out is_live e xs (ap not void)) in
          let none = adds_none day e void in
          omega arith)
      | inr not_void ↦
          (let same : of_live (filter is_live (e ∷ xs)) ≡ of_live (e ∷ filter is_live xs) =
          ap of_live (filter_in is_live e xs (ap not not_void)) in
          let more = liability-cons (liability_of e.content.value) (map liability_of (live xs)) day
          day in
          let one = owed_is day e.content.value in
          let its = adds_live day e not_void in
          omega arith)
    ]

owed_other : (day : ℕ) (r : PayRun) → r.payday ≢ day → owed_on day r ≡ 0
owed_other day r other = rw (eq_not r.payday day other) refl

adds_other : (day : ℕ) (e : Entry (Voidable PayRun)) → e.content.value.payday ≢ day → adds day e ≡ 0
adds_other day e other =
    elim (cases_Bool e.content.voided) [
      | inl void ↦ adds_none day e void
      | inr not_void ↦ adds_live day e not_void ∙ owed_other day e.content.value other
    ]

-- ---- where a run is added or made void

-- a run that is added changes the liability of its payday alone
pub day_added : (day : ℕ) (xs : List (Entry (Voidable PayRun))) (name : List ℕ) (number : ℕ)
    (run : PayRun) → run.payday ≢ day
    → liability (map liability_of (live (with_entry xs name number (taken run)))) day day
    ≡ liability (map liability_of (live xs)) day day
day_added day xs name number run other =
    let e : Entry (Voidable PayRun) = record { name = name; key = number; content = taken run } in
    let more = day_liability day (xs ++ e ∷ []) in
    let before = day_liability day xs in
    let all = sum_by-append (adds day) xs (e ∷ []) in
    let last = sum_by-cons (adds day) e [] in
    let none : adds day e ≡ 0 = adds_other day e other in
    let nil : sum_by (adds day) [] ≡ 0 = refl in
    omega arith

-- the runs of the account and number were paid on the day
abbrev pub ArePaidOn : List ℕ → ℕ → ℕ → List (Entry (Voidable PayRun)) → Type 0
ArePaidOn name number payday xs = (e : Entry (Voidable PayRun)) → Has xs e
    → is_under name number e ≡ true → e.content.value.payday ≡ payday

adds_voided : (day payday : ℕ) (name : List ℕ) (number : ℕ) (e : Entry (Voidable PayRun))
    → day ≢ payday → (is_under name number e ≡ true → e.content.value.payday ≡ payday)
    → adds day (voided_if name number e) ≡ adds day e
adds_voided day payday name number e other paid =
    let after : Bool → Entry (Voidable PayRun) = λ b. record {
      name = e.name;
      key = e.key;
      content = if b then as_voided e.content else e.content;
    } in
    elim (cases_Bool (is_under name number e)) [
      | inl it ↦
          (let n = other in
          let is = paid it in
          ap (λ b. adds day (after b)) it ∙ sym (adds_other day e (λ same. n (sym same ∙ is))))
      | inr not_it ↦ ap (λ b. adds day (after b)) not_it
    ]

-- so does one that is made void
pub day_voided : (day payday : ℕ) (xs : List (Entry (Voidable PayRun))) (name : List ℕ) (number : ℕ)
    → ArePaidOn name number payday xs → day ≢ payday
    → liability (map liability_of (live (with_voided xs name number))) day day ≡ liability
    (map liability_of (live xs)) day day
day_voided day payday xs name number paid other =
    day_liability day (with_voided xs name number) ∙ (sums xs paid ∙ sym (day_liability day xs))
  where
    sums : (ys : List (Entry (Voidable PayRun))) → ArePaidOn name number payday ys
        → sum_by (adds day) (with_voided ys name number) ≡ sum_by (adds day) ys
    sums [] on = refl
    sums (e ∷ ys) on =
        let one = sum_by-cons (adds day) (voided_if name number e) (with_voided ys name number) in
        let two = sum_by-cons (adds day) e ys in
        let rest = sums ys (λ x has. on x (inr has)) in
        let here = adds_voided day payday name number e other (on e (inl refl)) in
        omega arith

-- ---- by rows

-- what is owed for the row of a run, where it was paid on the day
abbrev owed_row : ℕ → RunRow → ℕ
owed_row day r = if int_eq r.payday (day_number day) then whole r.fit + whole r.ss + whole
    r.medicare else 0

owed_same : (account : List ℕ) (day : ℕ) (number : ℤ) (r : PayRun) (voided : Bool)
    → owed_row day (run_row account number r voided) ≡ owed_on day r
owed_same account day number r voided = ap (λ b. if b then r.fit.0 + r.ss.0 + r.medicare.0 else 0)
    (same_day r.payday day)

listed_sum : (account : List ℕ) (day : ℕ) (rows : List RunRow) (runs : List PayRun)
    → Pairs (IsLiveRun account) rows runs → sum_by (owed_row day) rows ≡ sum_by (owed_on day) runs
listed_sum account day [] [] pairs = refl
listed_sum account day [] (r ∷ runs) pairs = absurd pairs
listed_sum account day (row ∷ rows) [] pairs = absurd pairs
listed_sum account day (row ∷ rows) (r ∷ runs) pairs =
    let one = sum_by-cons (owed_row day) row rows in
    let two = sum_by-cons (owed_on day) r runs in
    let rest = listed_sum account day rows runs pairs.1 in
    let here : owed_row day row ≡ owed_on day r = ap (owed_row day) pairs.0.1
    ∙ owed_same account day pairs.0.0 r false in
    omega arith

none_of : (b : Bool) → ◌≡◌ {A = ℕ} (cond b 0 0) 0
none_of true = refl
none_of false = refl

-- what an entry's row adds to a day between the two is what the entry adds
one_same : (account : List ℕ) (from to day : ℕ) (e : Entry (Voidable PayRun)) → from ≤ day
    → day ≤ to
    → cond (is_live_run_between account (day_number from) (day_number to) (run_entry e))
    (owed_row day (run_entry e)) 0 ≡ cond (is_of account e) (adds day e) 0
one_same account from to day e l m =
    let r = e.content.value in
    let owed = owed_same e.name day (pos e.key) r e.content.voided in
    let low = day_le from r.payday in
    let high = day_le r.payday to in
    let test : Bool → Bool → Bool → Bool → Bool =
    λ a b d v. a && (b && (d && int_eq (flag_number v) (pos 0))) in
    elim (same_or_not r.payday day) [
      | inl same ↦
          (let low_yes : nat_le from r.payday ≡ true = le-leb from r.payday (omega arith) in
          let high_yes : nat_le r.payday to ≡ true = le-leb r.payday to (omega arith) in
          let passes : is_live_run_between account (day_number from) (day_number to) (run_entry e)
          ≡ test (is_of account e) true true e.content.voided =
          ap (λ b. test (is_of account e) b (int_le (day_number r.payday) (day_number to))
          e.content.voided) (low ∙ low_yes)
          ∙ ap (λ b. test (is_of account e) true b e.content.voided) (high ∙ high_yes) in
          ap (λ b. cond b (owed_row day (run_entry e)) 0) passes
          ∙ ap (λ n. cond (test (is_of account e) true true e.content.voided) n 0) owed
          ∙ by_flags (is_of account e) e.content.voided (owed_on day r))
      | inr other ↦
          (let none = owed ∙ owed_other day r other in
          ap (λ n. cond (is_live_run_between account (day_number from) (day_number to)
          (run_entry e)) n 0) none
          ∙ none_of (is_live_run_between account (day_number from) (day_number to) (run_entry e))
          ∙ sym (ap (λ n. cond (is_of account e) n 0) (adds_other day e other)
          ∙ none_of (is_of account e)))
    ]
  where
    by_flags : (a v : Bool) (n : ℕ) → cond (a && (true && (true && int_eq (flag_number v) (pos 0))))
        n 0 ≡ cond a (if v then 0 else n) 0
    by_flags true true n = refl
    by_flags true false n = refl
    by_flags false v n = refl

-- the rows of an account's live runs between two days make the liability that its entries make
-- there
pub rows_sum : (account : List ℕ) (from to day : ℕ) (xs : List (Entry (Voidable PayRun)))
    → from ≤ day → day ≤ to
    → sum_by (owed_row day) (filter (is_live_run_between account (day_number from) (day_number to))
    (map run_entry xs)) ≡ sum_by (adds day) (filter (is_of account) xs)
rows_sum account from to day [] l m = refl
rows_sum account from to day (e ∷ xs) l m =
    kept_sum (is_live_run_between account (day_number from) (day_number to)) (owed_row day)
    (run_entry e) (map run_entry xs)
    ∙ (ap (λ n. n + sum_by (owed_row day)
    (filter (is_live_run_between account (day_number from) (day_number to)) (map run_entry xs)))
    (one_same account from to day e l m)
    ∙ (ap (λ n. cond (is_of account e) (adds day e) 0 + n) (rows_sum account from to day xs l m)
    ∙ sym (kept_sum (is_of account) (adds day) e xs)))

-- the day sums that rows list are the liability that the entries make, on the days from one to
-- another
pub sums_listed : (account : List ℕ) (from to : ℕ) (xs : List (Entry (Voidable PayRun)))
    (sums : List DaySum)
    → ListsDaySums RunsRise account
    (filter (is_live_run_between account (day_number from) (day_number to)) (map run_entry xs)) sums
    → (a b : ℕ) → from ≤ a → b ≤ to
    → liability (map liability_of (live (filter (is_of account) xs))) a b ≡ liability sums a b
sums_listed account from to xs sums listed a b l m =
    runs_same sums (map liability_of (live (filter (is_of account) xs))) a b
    (λ day u v. each day (omega arith) (omega arith))
  where
    each : (day : ℕ) → from ≤ day → day ≤ to
        → liability (map liability_of (live (filter (is_of account) xs))) day day ≡ liability sums
        day day
    each day u v =
        let rows = filter (is_live_run_between account (day_number from) (day_number to))
        (map run_entry xs) in
        day_liability day (filter (is_of account) xs)
        ∙ (sym (rows_sum account from to day xs u v)
        ∙ (sym (sum_by-IsPermutation (owed_row day) rows listed.listed.ordered listed.listed.same)
        ∙ (listed_sum account day listed.listed.ordered listed.runs listed.listed.pairs
        ∙ sym (listed.total day))))

-- The payments that were read count for the days what the account's live payments count for them.
use Rattle.std.proofs.Common.{◌≡◌, ℕ, ℤ, pos, ◌+◌, ◌<◌, ◌≤◌, cond, inl, inr, List, [], ◌∷◌, map}
use Rattle.std.proofs.Common.{Bool, true, false, ◌&&◌, Vec, refl, sym, ap, ◌∙◌, arith}
use Rattle.std.proofs.Math.IntN.{◌+ℤ◌, -ℤ-+ℤ_cancel}
use Rattle.std.specs.Prelude.{filter, min, bytes_eq, nat_lt}
use Rattle.std.specs.List.{sum_by}
use Rattle.std.proofs.lemmas.Bool.{cases_Bool, le-leb, lt-ltb, cases_lt}
use Rattle.std.proofs.lemmas.List.Sums.{sum_by-cons}
use Rattle.std.proofs.lemmas.List.Sorted.{sum_by-IsPermutation}
use Rattle.ftd_rules.specs.declared.payment.Payment.{Payment}
use Rattle.ftd_rules.specs.declared.run.Voidable.{Voidable}
use Rattle.ftd_rules.specs.Payments.{counts_by}
use Rattle.ftd_rules.proofs.Members.{kept_sum}
use Rattle.ftd_sql.specs.Rows.{PaymentRow}
use Rattle.ftd_sql.specs.Standing.{Tables}
use Rattle.ftd_sql.specs.Tests.{is_live_payment_between}
use Rattle.ftd_store.specs.Cells.{day_number}
use Rattle.ftd_store.specs.Lists.{Pairs}
use Rattle.ftd_store.specs.Rows.{payment_row}
use Rattle.ftd_store.specs.Finds.{IsLivePayment, ListsPayments}
use Rattle.ftd_machine.specs.State.{Entry, is_of}
use Rattle.ftd_machine.specs.History.{is_live, live}
use Rattle.ftd_entries.specs.Standing.{payment_entry}
use Rattle.ftd_entries.proofs.CalendarRows.{whole}
use Rattle.ftd_entries.specs.Returns.{KnowsPayments}
use Rattle.ftd_entries.proofs.DayCells.{day_le}
use Rattle.ftd_entries.proofs.KeptSums.{none_of, live_cell}

-- ---- one payment

-- the payment of a row
abbrev payment_of : PaymentRow → Payment
payment_of r = record {
  paid = whole (r.paid +ℤ pos 25_567);
  for_day = whole (r.for_day +ℤ pos 25_567);
  cents = record { 0 = whole r.cents };
}

payment_is : (account : List ℕ) (number : ℤ) (p : Payment) (voided : Bool)
    → payment_of (payment_row account number p voided) ≡ p
payment_is account number p voided =
    let back = λ (n : ℕ). ap whole (-ℤ-+ℤ_cancel (pos n) (pos 25_567)) in
    let paid : whole (day_number p.paid +ℤ pos 25_567) ≡ p.paid = back p.paid in
    let for_day : whole (day_number p.for_day +ℤ pos 25_567) ≡ p.for_day = back p.for_day in
    λ i. record { paid = paid i; for_day = for_day i; cents = p.cents }

same_of : (a b c d e : Bool) (n : ℕ) → b ≡ true → c ≡ true → d ≡ e → cond (a && (b && (c && d))) n 0
    ≡ cond a (cond e n 0) 0
same_of true b c d e n eb ec ed = rw (eb, ec, ed) refl
same_of false b c d e n eb ec ed = refl

module _ (name : List ℕ) (first last from to by : ℕ) (low : first ≤ from) (high : to ≤ last) where
  abbrev Test : PaymentRow → Bool
  Test = is_live_payment_between name (day_number first) (day_number last)

  abbrev counts : Payment → ℕ
  counts = counts_by from to by

  abbrev counted : PaymentRow → ℕ
  counted r = counts (payment_of r)

  -- a payment for another day counts nothing
  none_before : (p : Payment) → p.for_day < from → counts p ≡ 0
  none_before p less = let early : nat_lt p.for_day from ≡ true = lt-ltb p.for_day from less in
      rw early refl

  none_after : (p : Payment) → to < p.for_day → counts p ≡ 0
  none_after p more =
      let late : nat_lt to p.for_day ≡ true = lt-ltb to p.for_day more in
      elim (cases_Bool (nat_lt p.for_day from)) [
        | inl early ↦ rw early refl
        | inr in_time ↦ rw (in_time, late) refl
      ]

  entry_counted : (e : Entry (Voidable Payment))
      → counted (payment_entry e) ≡ counts e.content.value
  entry_counted e = ap counts (payment_is e.name (pos e.key) e.content.value e.content.voided)

  abbrev own_count : Entry (Voidable Payment) → ℕ
  own_count e = cond (is_of name e) (cond (is_live e) (counts e.content.value) 0) 0

  uncounted : (e : Entry (Voidable Payment)) → counts e.content.value ≡ 0
      → cond (Test (payment_entry e)) (counted (payment_entry e)) 0 ≡ own_count e
  uncounted e none =
      none_of (Test (payment_entry e)) (counted (payment_entry e)) (entry_counted e ∙ none)
      ∙ sym (none_of (is_of name e) (cond (is_live e) (counts e.content.value) 0)
      (none_of (is_live e) (counts e.content.value) none))

  one_entry : (e : Entry (Voidable Payment)) → cond (Test (payment_entry e))
      (counted (payment_entry e)) 0 ≡ own_count e
  one_entry e =
      let day : ℕ = e.content.value.for_day in
      elim (cases_lt day first) [
        | inl before ↦ uncounted e (none_before e.content.value (omega arith))
        | inr since ↦ elim (cases_lt last day) [
          | inl after ↦ uncounted e (none_after e.content.value (omega arith))
          | inr until ↦
              same_of (bytes_eq e.name name) _ _ _ (is_live e) (counted (payment_entry e))
              (day_le first day ∙ le-leb first day since) (day_le day last ∙ le-leb day last until)
              (live_cell e.content.voided)
              ∙ ap (λ n. cond (is_of name e) (cond (is_live e) n 0) 0) (entry_counted e)
        ]
      ]

  -- ---- all payments

  abbrev own_payments : List (Entry (Voidable Payment)) → List Payment
  own_payments es = live (filter (is_of name) es)

  one_more : (e : Entry (Voidable Payment)) (es : List (Entry (Voidable Payment)))
      → sum_by counts (own_payments (e ∷ es)) ≡ own_count e + sum_by counts (own_payments es)
  one_more e es = elim (cases_Bool (is_of name e)) [
    | inl own ↦ elim (cases_Bool (is_live e)) [
      | inl lives ↦ rw (own, lives) (sum_by-cons counts e.content.value (own_payments es))
      | inr dead ↦ rw (own, dead) (omega arith)
    ]
    | inr apart ↦ rw apart (omega arith)
  ]

  entries_count : (es : List (Entry (Voidable Payment)))
      → sum_by counted (filter Test (map payment_entry es)) ≡ sum_by counts (own_payments es)
  entries_count [] = refl
  entries_count (e ∷ es) =
      kept_sum Test counted (payment_entry e) (map payment_entry es)
      ∙ (ap (λ n. n + sum_by counted (filter Test (map payment_entry es))) (one_entry e)
      ∙ (ap (λ n. own_count e + n) (entries_count es) ∙ sym (one_more e es)))

  paired_count : (rows : List PaymentRow) (ps : List Payment) → Pairs (IsLivePayment name) rows ps
      → sum_by counted rows ≡ sum_by counts ps
  paired_count [] [] pairs = refl
  paired_count [] (p ∷ ps) pairs = absurd pairs
  paired_count (r ∷ rows) [] pairs = absurd pairs
  paired_count (r ∷ rows) (p ∷ ps) pairs =
      let one : counted r ≡ counts p = ap counted pairs.0.1
      ∙ ap counts (payment_is name pairs.0.0 p false) in
      let more = paired_count rows ps pairs.1 in
      let left = sum_by-cons counted r rows in
      let right = sum_by-cons counts p ps in
      omega arith

pub payments_known : {A : Type 0} (name : List ℕ) (first last : ℕ) (listed : Vec Payment A)
    (t : Tables) → ListsPayments name first last listed t
    → KnowsPayments name first last listed.items t
payments_known name first last listed t lists s stands from to as_of day low high =
    let by : ℕ = min day as_of in
    sym (paired_count name first last from to by low high lists.ordered listed.items lists.pairs)
    ∙ (sum_by-IsPermutation (counted name first last from to by low high) _ lists.ordered lists.same
    ∙ (ap (λ rows. sum_by (counted name first last from to by low high)
    (filter (Test name first last from to by low high) rows)) stands.entries.paid.payments
    ∙ entries_count name first last from to by low high s.payments))

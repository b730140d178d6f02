-- What is told of an obligation shows the rows of the tables, whatever else these hold.
use Rattle.std.proofs.Common.{◌≡◌, ◌∙◌, ◌+◌, ◌≤◌, ◌&&◌, ℕ, pos, Bool, true, false, List, [], ◌∷◌}
use Rattle.std.proofs.Common.{map, Option, None, Some, Ok, Vec, sym, ap, subst, refl}
use Rattle.std.specs.Prelude.{bytes_eq, filter, int_le, MatchOption, nat_le, not}
use Rattle.std.specs.Ordering.{int_eq}
use Rattle.std.specs.List.Sorted.{IsPermutation}
use Rattle.std.proofs.lemmas.Bool.{and_parts, leb-true}
use Rattle.std.proofs.lemmas.List.Elements.{filter_agree}
use Rattle.ftd_days.specs.Calendar.{year_of, quarter_of}
use Rattle.ftd_rules.specs.declared.Form.{Form}
use Rattle.ftd_rules.specs.declared.Obligation.{Obligation}
use Rattle.ftd_rules.specs.declared.YearLine.{YearLine}
use Rattle.ftd_rules.specs.Lists.{Has}
use Rattle.ftd_rules.specs.Returns.{IsReturnDue}
use Rattle.ftd_sql.specs.Orders.{ObligationsRise, PaymentsRise}
use Rattle.ftd_sql.specs.Rows.{ObligationRow, PaymentRow}
use Rattle.ftd_sql.specs.Standing.{Tables}
use Rattle.ftd_sql.specs.Tests.{is_live_payment_between, is_payment_between}
use Rattle.ftd_sql.specs.declared.TableName.TheVariants.{Obligations, Payments}
use Rattle.ftd_store.specs.Cells.{day_number, flag_number}
use Rattle.ftd_store.specs.Finds.{ListsObligations}
use Rattle.ftd_store.specs.Holidays.{HasYears}
use Rattle.ftd_store.specs.Kept.{IsNumberedPayment}
use Rattle.ftd_store.specs.Lists.{Lists, Pairs}
use Rattle.ftd_store.specs.Rows.{obligation_row, payment_row}
use Rattle.ftd_store.specs.declared.kept_cells.NumberedPayment.{NumberedPayment}
use Rattle.ftd_store.proofs.Sifted.{sifted}
use Rattle.ftd_machine.specs.Told.{explained_answer}
use Rattle.ftd_machine.specs.declared.explained.Explanation.{Explanation}
use Rattle.ftd_machine.specs.declared.explained.RunningSum.{RunningSum}
use Rattle.ftd_machine.specs.declared.facts.ExplainedDay.{ExplainedDay}
use Rattle.ftd_machine.specs.declared.facts.Facts.TheVariants.{Explained}
use Rattle.ftd_machine.specs.declared.kept.KeptPayment.{KeptPayment}
use Rattle.ftd_machine.specs.declared.replies.Reply.TheVariants.{Told}
use Rattle.ftd_entries.proofs.DayCells.{day_le}
use Rattle.ftd_entries.proofs.DayChanges.{filter_both}
use Rattle.ftd_entries.proofs.ListedRows.{kept_seen, passing_value, value_passes}
use Rattle.ftd_entries.proofs.OwedRows.{begins, begins_is}
use Rattle.ftd_kept.specs.Explained.{AreCounted, IsToldBy, KnowsPaydays, ShowsCovering}
use Rattle.ftd_kept.specs.Explained.{ShowsExplanation, ShowsPaydays}
use Rattle.ftd_kept.specs.Payments.{IsPaymentFor, KnowsPaymentsOf, ShowsPayments, is_live_payment}
use Rattle.ftd_kept.specs.Payments.{payment_shown}

-- ---- the obligation

-- the first of the obligations begun by a day that does not end before it is a row that covers it,
-- and where there is none no row does
pub covering_shown : {A : Type 0} (name : List ℕ) (first day : ℕ) (begun : Vec Obligation A)
    (found : Option Obligation)
    → MatchOption found ((o : Obligation) → Has begun.items o → day ≤ o.last → ⊥)
    (λ o. Has begun.items o × (day ≤ o.last))
    → first ≡ 0 → (t : Tables) → ListsObligations name first day begun t
    → ShowsCovering name day found t
covering_shown name first day begun None none zero_is t lists = λ r has covers.
    (let test : ObligationRow → Bool = begins name first day in
    let parts = and_parts (begins name 0 day r) (int_le (day_number day) r.last) covers in
    let passes : test r ≡ true = ap (λ n. begins name n day r) zero_is ∙ parts.0 in
    let from = passing_value (obligation_row name) ObligationsRise test (t Obligations) begun.items
    lists r has passes in
    let o : Obligation = from.0 in
    let late : nat_le day o.last ≡ true =
    sym (day_le day o.last)
    ∙ (ap (λ (q : ObligationRow). int_le (day_number day) q.last) (sym from.2) ∙ parts.1) in
    none o from.1 (leb-true day o.last late))
covering_shown name first day begun (Some o) is zero_is t lists =
    let test : ObligationRow → Bool = begins name first day in
    let there = value_passes (obligation_row name) ObligationsRise test (t Obligations) begun.items
    lists o is.0 in
    let days = and_parts (nat_le first o.first) (nat_le o.first day)
    (sym (begins_is name first day o) ∙ there.1) in
    (there.0, (leb-true o.first day days.1, is.1))

-- ---- payments

abbrev row_of : List ℕ → NumberedPayment → PaymentRow
row_of name x = payment_row name (pos x.number) x.payment.value x.payment.voided

live_flag : (voided : Bool) → int_eq (flag_number voided) (pos 0) ≡ not voided
live_flag true = refl
live_flag false = refl

regrouped : (a b c d : Bool) → ((a && (b && c)) && d) ≡ (a && (b && (c && d)))
regrouped true true c d = refl
regrouped true false c d = refl
regrouped false b c d = refl

module _ (name : List ℕ) (first last : ℕ) (t : Tables) (found : List NumberedPayment)
    (lists : Lists PaymentsRise (IsNumberedPayment name)
    (filter (is_payment_between name (day_number first) (day_number last)) (t Payments)) found)
    (told : List KeptPayment) (start : ℕ)
    (are_told : Pairs (IsPaymentFor start) (filter is_live_payment found) told) where
  abbrev test : PaymentRow → Bool
  test = is_payment_between name (day_number first) (day_number last)

  abbrev is_live : PaymentRow → Bool
  is_live p = int_eq p.voided (pos 0)

  read_rows : (rows : List PaymentRow) (xs : List NumberedPayment)
      → Pairs (IsNumberedPayment name) rows xs → rows ≡ map (row_of name) xs
  read_rows [] [] pairs = refl
  read_rows [] (x ∷ xs) pairs = absurd pairs
  read_rows (r ∷ rows) [] pairs = absurd pairs
  read_rows (r ∷ rows) (x ∷ xs) pairs =
      ap (λ (q : PaymentRow). q ∷ rows) pairs.0
      ∙ ap (λ (l : List PaymentRow). row_of name x ∷ l) (read_rows rows xs pairs.1)

  told_rows : (xs : List NumberedPayment) (ys : List KeptPayment) → Pairs (IsPaymentFor start) xs ys
      → map (row_of name) xs ≡ map (payment_shown name) ys
  told_rows [] [] pairs = refl
  told_rows [] (y ∷ ys) pairs = absurd pairs
  told_rows (x ∷ xs) [] pairs = absurd pairs
  told_rows (x ∷ xs) (y ∷ ys) pairs =
      ap (λ (r : PaymentRow). r ∷ map (row_of name) xs) (sym (ap (payment_shown name) pairs.0))
      ∙ ap (λ (l : List PaymentRow). payment_shown name y ∷ l) (told_rows xs ys pairs.1)

  -- the payments that are told are the live ones of the tables
  pub payments_shown : ShowsPayments name first last told t
  payments_shown =
      let all : List PaymentRow = t Payments in
      let read : IsPermutation (filter test all) (map (row_of name) found) =
      subst (λ l. IsPermutation (filter test all) l)
      (read_rows lists.ordered found lists.pairs) lists.same in
      let both : filter is_live (filter test all)
      ≡ filter (is_live_payment_between name (day_number first) (day_number last)) all =
      filter_both is_live test all
      ∙ filter_agree (λ p. test p && is_live p)
      (is_live_payment_between name (day_number first) (day_number last))
      (λ p. regrouped (bytes_eq p.account name) (int_le (day_number first) p.for_day)
      (int_le p.for_day (day_number last)) (is_live p)) all in
      subst (λ l. IsPermutation l (map (payment_shown name) told)) both
      (subst (λ l. IsPermutation (filter is_live (filter test all)) l)
      (kept_seen (row_of name) is_live is_live_payment (λ x. live_flag x.payment.voided) found
      ∙ told_rows (filter is_live_payment found) told are_told)
      (sifted is_live (filter test all) (map (row_of name) found) read))

-- ---- the explanation

pub told_shown : (name : List ℕ) (form : Form) (lines : List YearLine) (read : List ℕ)
    (o : Obligation) (paydays : List RunningSum) (payments : List KeptPayment) (e : Explanation)
    → IsToldBy form lines read o paydays payments e → (t : Tables) → KnowsPaydays name o paydays t
    → KnowsPaymentsOf name o payments t → HasYears (year_of o.first) (year_of o.first + 1) read t
    → (e.obligation ≡ o) × ShowsExplanation name form e t
told_shown name form lines read o paydays payments e is t knows_paydays knows_payments years =
    let same : o ≡ e.obligation = sym is.obligation in (
      is.obligation,
      record {
        paydays = subst (λ (p : Obligation). ShowsPaydays name p.first p.last e.paydays t) same
            (subst (λ xs. ShowsPaydays name o.first o.last xs t) (sym is.paydays_are)
            knows_paydays.shown);
        payments = subst (λ (p : Obligation). ShowsPayments name p.first p.last e.payments t) same
            (subst (λ xs. ShowsPayments name o.first o.last xs t) (sym is.payments_are)
            knows_payments.shown);
        holidays = read;
        are_holidays =
            subst (λ (p : Obligation). HasYears (year_of p.first) (year_of p.first + 1) read t) same
            years;
        days = subst (λ p. AreCounted read p e.days) same is.days;
        return_due =
            subst (λ (p : Obligation). IsReturnDue form read (quarter_of p.first) e.return_due) same
            is.return_due;
      },
    )

-- what was told
pub told_found : (account : List ℕ) (day : ℕ) (found : Option Explanation) (other : ExplainedDay)
    → explained_answer account day found ≡ Ok (Told (Explained other)) → found ≡ other.found
told_found account day found other e = cc

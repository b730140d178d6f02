-- What was read of an account is what it owes that may be due on some days.
use Rattle.std.proofs.Common.{◌≡◌, ◌∙◌, refl, sym, subst, ℕ, ◌+◌, ◌-◌, ◌<◌, ◌≤◌, ◌++◌, Bool, true}
use Rattle.std.proofs.Common.{false, List, [], ◌∷◌, length, take, get_or, ap, Option, None, Some}
use Rattle.std.proofs.Common.{Vec, map, arith}
use Rattle.std.specs.Prelude.{filter, nat_le}
use Rattle.std.specs.List.Sorted.{IsPermutation}
use Rattle.std.proofs.lemmas.Bool.{le-leb, lt-ltb, ltb-true}
use Rattle.std.proofs.lemmas.List.{append-nil}
use Rattle.std.proofs.lemmas.List.Elements.{filter-append}
use Rattle.ftd_days.specs.Calendar.{year_of, year_start}
use Rattle.ftd_rules.specs.declared.Obligation.{Obligation}
use Rattle.ftd_rules.specs.declared.payment.Payment.{Payment}
use Rattle.ftd_rules.specs.Lists.{Has}
use Rattle.ftd_rules.specs.Obligations.{ByFirstDay, begins_on}
use Rattle.ftd_rules.specs.Payments.{paid_by}
use Rattle.ftd_rules.proofs.DueDates.{due_later}
use Rattle.ftd_rules.proofs.Members.{has_kept}
use Rattle.ftd_sql.specs.Orders.{ObligationsRise, PaymentsRise}
use Rattle.ftd_sql.specs.Standing.{Tables}
use Rattle.ftd_sql.specs.Tests.{is_live_payment_between}
use Rattle.ftd_sql.specs.declared.TableName.TheVariants.{Obligations, Payments}
use Rattle.ftd_store.specs.Cells.{day_number}
use Rattle.ftd_store.specs.Finds.{IsLivePayment, IsObligation, ListsObligations, ListsPayments}
use Rattle.ftd_store.specs.Lists.{Lists}
use Rattle.ftd_store.specs.Rows.{obligation_row}
use Rattle.ftd_store.proofs.Items.{taken}
use Rattle.ftd_machine.specs.History.{form_of, live_sums}
use Rattle.ftd_machine.specs.Sound.{IsSound}
use Rattle.ftd_machine.specs.State.{State, entries_of, holidays}
use Rattle.ftd_machine.proofs.Few.{few_in_force}
use Rattle.ftd_machine.proofs.Members.{has_filtered}
use Rattle.ftd_entries.specs.Standing.{StandsFor}
use Rattle.ftd_entries.proofs.OwedRows.{begins, kept_by_first_day, obligations_known}
use Rattle.ftd_questions.specs.Listing.{AreOwn, ListsOwn, is_own, is_unpaid}
use Rattle.ftd_entries.specs.Returns.{KnowsPayments}
use Rattle.ftd_questions.proofs.DueYears.{begins_late}
use Rattle.ftd_questions.proofs.OwedDays.{period_days, piece, some_days}
use Rattle.ftd_questions.proofs.TablesDue.{own_left_rows, own_rows}

-- one item more that a test keeps, or one that it leaves
module _ {X : Type 0} (p : X → Bool) (xs : List X) (i : ℕ) (x : X) (some : i < length xs)
    (is : x ≡ get_or xs i x) where
  more : filter p (take (i + 1) xs) ≡ filter p (take i xs) ++ filter p (x ∷ [])
  more = ap (filter p) (taken xs i x some is) ∙ filter-append p (take i xs) (x ∷ [])

  pub kept_more : (ys : List X) → ys ≡ filter p (take i xs) → p x ≡ true
      → ys ++ x ∷ [] ≡ filter p (take (i + 1) xs)
  kept_more ys so_far kept =
      let one : filter p (x ∷ []) ≡ x ∷ [] = rw kept refl in
      ap (λ (l : List X). l ++ x ∷ []) so_far
      ∙ sym (more ∙ ap (λ (l : List X). filter p (take i xs) ++ l) one)

  pub left_more : (ys : List X) → ys ≡ filter p (take i xs) → p x ≡ false
      → ys ≡ filter p (take (i + 1) xs)
  left_more ys so_far left =
      let none : filter p (x ∷ []) ≡ [] = rw left refl in
      so_far ∙ sym (more ∙ (ap (λ (l : List X). filter p (take i xs) ++ l) none
      ∙ append-nil (filter p (take i xs))))

module _ (from to : ℕ) (name : List ℕ) (t : Tables) (s : State) (stands : StandsFor t s)
    (sound : IsSound s) where
  abbrev owed : List Obligation
  owed = (stands.settled name).owed

  -- a deposit is due on its last day or later
  due_after : (o : Obligation) → Has owed o → o.last ≤ o.due
  due_after o has =
      due_later (holidays s) o.rule o.last o.due (period_days name t s stands o has).1
      (piece name t s stands o has).due

  -- what is due on the days begins on those that are read
  begins_due : (o : Obligation) → Has owed o → from ≤ o.due → o.due ≤ to
      → begins_on (year_start (year_of from - 1)) to o ≡ true
  begins_due o has since until =
      let settled = stands.settled name in
      let late = begins_late (form_of (entries_of s name).account) settled.lines
      (live_sums (entries_of s name)) (holidays s) o settled.are_lines.schedules
      (few_in_force s sound.few)
      (piece name t s stands o has) from since in
      let some = some_days name t s stands o has in
      let after = due_after o has in
      let low : nat_le (year_start (year_of from - 1)) o.first ≡ true =
      le-leb (year_start (year_of from - 1)) o.first late in
      let high : nat_le o.first to ≡ true = le-leb o.first to (omega arith) in
      rw (low, high) refl

  module _ (found : List Obligation)
      (are_found : found ≡ filter (begins_on (year_start (year_of from - 1)) to) owed) where
    abbrev is_begun : Obligation → Bool
    is_begun = begins_on (year_start (year_of from - 1)) to

    of_found : (o : Obligation) → Has found o → Has owed o
    of_found o has = (has_filtered is_begun owed o (subst (λ os. Has os o) are_found has)).0

    to_found : (o : Obligation) → Has owed o → from ≤ o.due → o.due ≤ to → Has found o
    to_found o has since until = subst (λ os. Has os o) (sym are_found)
        (has_kept is_begun owed o has (begins_due o has since until))

    in_order : ByFirstDay found
    in_order = subst ByFirstDay (sym are_found)
        (kept_by_first_day is_begun owed (stands.settled name).are_owed.by_first_day)

    all_own : AreOwn None from to s name owed found
    all_own = record {
      by_first_day = in_order;
      owes = of_found;
      left = λ o has until. tt;
      all = λ o has since until is_left. to_found o has since until;
    }

    unpaid_own : (payments : List Payment) (as_of : ℕ) → KnowsPayments name 0 to payments t
        → AreOwn (Some as_of) from to s name owed (filter (is_unpaid payments as_of) found)
    unpaid_own payments as_of counts = record {
      by_first_day = kept_by_first_day (is_unpaid payments as_of) found in_order;
      owes = λ o has. of_found o (has_filtered (is_unpaid payments as_of) found o has).0;
      left = λ o has until.
          let kept = has_filtered (is_unpaid payments as_of) found o has in
          let after = due_after o (of_found o kept.0) in
          let same = counts s stands o.first o.last as_of as_of (omega arith) (omega arith) in
          let less = ltb-true (paid_by payments o.first o.last as_of as_of) o.cents.0 kept.1 in
          omega arith;
      all = λ o has since until is_left.
          let after = due_after o has in
          let same = counts s stands o.first o.last as_of as_of (omega arith) (omega arith) in
          let less : paid_by payments o.first o.last as_of as_of < o.cents.0 = omega arith in
          has_kept (is_unpaid payments as_of) found o (to_found o has since until)
          (lt-ltb (paid_by payments o.first o.last as_of as_of) o.cents.0 less);
    }

is_none : (unpaid : Option ℕ) → ((day : ℕ) → unpaid ≡ Some day → ⊥) → unpaid ≡ None
is_none None never = refl
is_none (Some day) never = absurd (never day refl)

pub own_read : {A : Type 0} (unpaid : Option ℕ) (from to : ℕ) (name : List ℕ) (first : ℕ)
    (found : Vec Obligation A) (t : Tables) → ((day : ℕ) → unpaid ≡ Some day → ⊥)
    → first ≡ year_start (year_of from - 1) → ListsObligations name first to found t
    → ListsOwn unpaid from to name found.items t
own_read unpaid from to name first found t never start lists = record {
  known = λ s stands sound.
      subst (λ u. AreOwn u from to s name (stands.settled name).owed found.items)
      (sym (is_none unpaid never))
      (all_own from to name t s stands sound found.items
      (subst (λ f. found.items ≡ filter (begins_on f to) (stands.settled name).owed) start
      (obligations_known name first to found t lists s stands)));
  rows = subst (λ u. IsPermutation (filter (is_own u from to t name) (t Obligations))
      (map (obligation_row name) found.items)) (sym (is_none unpaid never))
      (own_rows name from to t found.items (subst (λ f. Lists ObligationsRise (IsObligation name)
      (filter (begins name f to) (t Obligations)) found.items) start lists));
}

pub own_unpaid : {A B : Type 0} (unpaid : Option ℕ) (from to : ℕ) (name : List ℕ)
    (first lowest as_of : ℕ) (found : Vec Obligation A) (left : List Obligation)
    (payments : Vec Payment B) (t : Tables) → unpaid ≡ Some as_of
    → first ≡ year_start (year_of from - 1) → lowest ≡ 0
    → left ≡ filter (is_unpaid payments.items as_of) found.items
    → ListsObligations name first to found t → KnowsPayments name lowest to payments.items t
    → ListsPayments name lowest to payments t → ListsOwn unpaid from to name left t
own_unpaid unpaid from to name first lowest as_of found left payments t asked start zero_is left_is
    lists counts paid = record {
      known = λ s stands sound.
          subst (λ u. AreOwn u from to s name (stands.settled name).owed left) (sym asked)
          (subst (AreOwn (Some as_of) from to s name (stands.settled name).owed) (sym left_is)
          (unpaid_own from to name t s stands sound found.items
          (subst (λ f. found.items ≡ filter (begins_on f to) (stands.settled name).owed) start
          (obligations_known name first to found t lists s stands))
          payments.items as_of
          (subst (λ z. KnowsPayments name z to payments.items t) zero_is counts)));
      rows = subst (λ u. IsPermutation (filter (is_own u from to t name) (t Obligations))
          (map (obligation_row name) left)) (sym asked)
          (own_left_rows name from to t as_of payments.items
          (subst (λ z. Lists PaymentsRise (IsLivePayment name)
          (filter (is_live_payment_between name (day_number z) (day_number to)) (t Payments))
          payments.items) zero_is paid) found.items left left_is
          (subst (λ f. Lists ObligationsRise (IsObligation name)
          (filter (begins name f to) (t Obligations)) found.items) start lists));
    }

-- The payments of a quarter that were read are those that are kept.
use Rattle.std.proofs.Common.{◌≡◌, ◌∙◌, sym, ap, subst, ℕ, ◌+◌, ◌≤◌, ◌&&◌, pos, Bool, true, false}
use Rattle.std.proofs.Common.{List, map, Option, None, Some, refl, arith}
use Rattle.std.specs.Prelude.{◌↔◌, filter, bytes_eq, int_le, nat_le}
use Rattle.std.proofs.lemmas.Bool.{le-leb, not-true}
use Rattle.std.proofs.lemmas.Option.{same_Some}
use Rattle.ftd_days.specs.Calendar.{quarter_of, quarter_start, quarter_year}
use Rattle.ftd_rules.specs.declared.Obligation.{Obligation}
use Rattle.ftd_rules.specs.declared.payment.Payment.{Payment}
use Rattle.ftd_rules.specs.declared.run.Voidable.{Voidable}
use Rattle.ftd_rules.specs.Lists.{Has}
use Rattle.ftd_rules.proofs.Members.{mapped_has, has_kept}
use Rattle.ftd_rules.specs.Obligations.{begins_on}
use Rattle.ftd_sql.specs.Orders.{PaymentsRise}
use Rattle.ftd_sql.specs.Rows.{PaymentRow}
use Rattle.ftd_sql.specs.Standing.{Tables}
use Rattle.ftd_sql.specs.Tests.{is_payment_between}
use Rattle.ftd_sql.specs.declared.TableName.TheVariants.{Payments}
use Rattle.ftd_store.specs.Cells.{day_number}
use Rattle.ftd_store.specs.Lists.{Lists, Pairs}
use Rattle.ftd_store.specs.Rows.{payment_row}
use Rattle.ftd_store.specs.declared.kept_cells.NumberedPayment.{NumberedPayment}
use Rattle.ftd_store.specs.Kept.{IsNumberedPayment}
use Rattle.ftd_machine.specs.Kept.{IsHeldBy, IsPaymentIn}
use Rattle.ftd_machine.specs.Sound.{IsSound}
use Rattle.ftd_machine.specs.State.{State, Entry, entries_of, kept_at}
use Rattle.ftd_machine.specs.declared.kept.KeptPayment.{KeptPayment}
use Rattle.ftd_machine.specs.Explaining.{IsPaymentOf}
use Rattle.ftd_machine.proofs.Adding.{own_name}
use Rattle.ftd_machine.proofs.KeptOne.{payment_one}
use Rattle.ftd_machine.proofs.Members.{has_filtered}
use Rattle.ftd_entries.specs.Standing.{StandsFor, payment_entry}
use Rattle.ftd_entries.proofs.Kept.{same_nat, payment_is}
use Rattle.ftd_entries.proofs.ListedRows.{entry_listed, passing_value}
use Rattle.ftd_kept.specs.Payments.{IsKeptPayment, is_live_payment, IsPaymentFor}
use Rattle.ftd_store.proofs.Items.{paired_from, paired_to}
use Rattle.ftd_machine.proofs.Entered.{is_kept, of_kept}
use Rattle.ftd_entries.proofs.QuarterDays.{days_from, days_into}
use Rattle.ftd_entries.proofs.QuarterDays.{in_quarter, of_quarter}

-- the obligation that holds a day is among those that begin by a later one
pub begun_by : (last : ℕ) (o : Obligation) → o.first ≤ last → begins_on 0 last o ≡ true
begun_by last o h =
    ap (λ b. b && nat_le o.first last) (le-leb 0 o.first (omega arith)) ∙ le-leb o.first last h

pub held_all : (owed : List Obligation) (last day : ℕ) (held : Option ℕ) → day ≤ last
    → IsHeldBy (filter (begins_on 0 last) owed) day held → IsHeldBy owed day held
held_all owed last day None soon none = λ o has holds.
    (let first = holds.0 in
    none o (has_kept (begins_on 0 last) owed o has (begun_by last o (omega arith))) holds)
held_all owed last day (Some first) soon held = (
  held.0,
  (has_filtered (begins_on 0 last) owed held.0 held.1).0,
  held.2,
  held.3,
  λ p has holds.
      (let begins = holds.0 in
      held.4 p (has_kept (begins_on 0 last) owed p has (begun_by last p (omega arith))) holds),
)

-- the row of a payment of the account
abbrev row_of : List ℕ → NumberedPayment → PaymentRow
row_of name x = payment_row name (pos x.number) x.payment.value x.payment.voided

-- ---- of a stretch of days

module _ (name : List ℕ) (first last : ℕ) (t : Tables) (s : State) (stands : StandsFor t s)
    (sound : IsSound s) (found : List NumberedPayment)
    (lists : Lists PaymentsRise (IsNumberedPayment name)
    (filter (is_payment_between name (day_number first) (day_number last)) (t Payments)) found)
  where
    abbrev test : PaymentRow → Bool
    test = is_payment_between name (day_number first) (day_number last)

    -- it is kept under its number, for one of the days
    abbrev pub IsKeptOn : NumberedPayment → Type 0
    IsKeptOn x =
        (kept_at x.number (entries_of s name).payments ≡ Some x.payment)
        × (first ≤ x.payment.value.for_day) × (x.payment.value.for_day ≤ last)

    pub is_kept_on : (x : NumberedPayment) → Has found x → IsKeptOn x
    is_kept_on x has =
        let from = entry_listed (row_of name) PaymentsRise test found payment_entry s.payments
        stands.entries.paid.payments lists x has in
        let e : Entry (Voidable Payment) = from.0 in
        let named : e.name ≡ name = ap (λ (r : PaymentRow). r.account) from.2 in
        let key : e.key ≡ x.number =
        same_nat e.key x.number (ap (λ (r : PaymentRow). r.number) from.2) in
        let content : e.content ≡ x.payment = payment_is name x.number e x.payment from.2 in
        let kept = is_kept name s.payments sound.payments e from.1 named in
        let days = days_from name first last x.payment.value.for_day (bytes_eq name name) from.3 in (
          subst (λ k. kept_at k (entries_of s name).payments ≡ Some x.payment) key
              (kept ∙ ap Some content),
          days.1,
          days.2,
        )

    -- and each that is was read
    pub found_on : (x : NumberedPayment) → IsKeptOn x → Has found x
    found_on x is =
        let kept = of_kept name s.payments sound.payments x.number x.payment is.0 in
        let row : payment_entry kept.0 ≡ row_of name x =
        ap (λ (d : Entry (Voidable Payment)). payment_entry d)
        (same_entry kept.0 kept.2 kept.3 kept.4) in
        let there : Has (t Payments) (row_of name x) =
        subst (λ rs. Has rs (row_of name x)) (sym stands.entries.paid.payments)
        (subst (Has (map payment_entry s.payments)) row
        (mapped_has payment_entry s.payments kept.0 kept.1)) in
        let passes : test (row_of name x) ≡ true =
        ap (λ b. b && (int_le (day_number first) (day_number x.payment.value.for_day)
        && int_le (day_number x.payment.value.for_day) (day_number last))) (own_name name)
        ∙ days_into first last x.payment.value.for_day is.1 is.2 in
        let item = passing_value (row_of name) PaymentsRise test (t Payments) found lists
        (row_of name x) there passes in
        let number : x.number ≡ item.0.number =
        same_nat x.number item.0.number (ap (λ (r : PaymentRow). r.number) item.2) in
        let its = is_kept_on item.0 item.1 in
        let payment : x.payment ≡ item.0.payment = same_Some x.payment item.0.payment (sym is.0
        ∙ ap (λ k. kept_at k (entries_of s name).payments) number ∙ its.0) in
        subst (Has found) (sym (same item.0 number payment)) item.1
      where
        same_entry : (e : Entry (Voidable Payment)) → e.name ≡ name → e.key ≡ x.number
            → e.content ≡ x.payment
            → e ≡ record { name = name; key = x.number; content = x.payment }
        same_entry e a b c = rw (sym a, sym b, sym c) refl

        same : (z : NumberedPayment) → x.number ≡ z.number → x.payment ≡ z.payment → x ≡ z
        same z a b = rw (a, b) refl

-- ---- of a quarter

module _ (name : List ℕ) (quarter last : ℕ) (is_last : last + 1 ≡ quarter_start (quarter + 1))
    (early : quarter_year quarter ≤ 2098) (t : Tables) (s : State) (stands : StandsFor t s)
    (sound : IsSound s) (found : List NumberedPayment)
    (lists : Lists PaymentsRise (IsNumberedPayment name)
    (filter (is_payment_between name (day_number (quarter_start quarter)) (day_number last))
    (t Payments)) found) (owed : List Obligation)
    (is_owed : owed ≡ filter (begins_on 0 last) (stands.settled name).owed)
    (told : List KeptPayment) (are_told : Pairs (IsKeptPayment owed) found told) where
  abbrev all : List Obligation
  all = (stands.settled name).owed

  abbrev Is : KeptPayment → Type 0
  Is x = IsPaymentIn all (entries_of s name) quarter x

  payment_in : (x : NumberedPayment) → Has found x → (y : KeptPayment) → IsKeptPayment owed x y
      → Is y
  payment_in x has y is_told =
      let on = is_kept_on name (quarter_start quarter) last t s stands sound found lists x has in
      let value : Voidable Payment = record { value = y.payment; voided = y.voided } in
      let same : x.payment ≡ value = same_value x y is_told in
      let day : x.payment.value.for_day ≡ y.payment.for_day =
      ap (λ (p : Payment). p.for_day) (sym is_told.payment) in
      let held : IsHeldBy all x.payment.value.for_day y.obligation =
      held_all all last x.payment.value.for_day y.obligation on.2
      (subst (λ os. IsHeldBy os x.payment.value.for_day y.obligation) is_owed
      is_told.obligation) in (
        subst (λ k. kept_at k (entries_of s name).payments ≡ Some value) (sym is_told.number)
            (on.0 ∙ ap Some same),
        subst (λ d. quarter_of d ≡ quarter) day
            (of_quarter quarter last is_last x.payment.value.for_day early on.1 on.2),
        subst (λ d. IsHeldBy all d y.obligation) day held,
      )
    where
      same_value : (x : NumberedPayment) (y : KeptPayment) → IsKeptPayment owed x y
          → x.payment ≡ record { value = y.payment; voided = y.voided }
      same_value x y is_told = rw (is_told.payment, is_told.voided) refl

  -- and each is told
  payment_there : (x : KeptPayment) → Is x → Has told x
  payment_there x is =
      let days = in_quarter quarter last is_last x.payment.for_day early is.1 in
      let z : NumberedPayment = record {
        number = x.number;
        payment = record { value = x.payment; voided = x.voided };
      } in
      let has = found_on name (quarter_start quarter) last t s stands sound found lists z
      (is.0, days.0, days.1) in
      let as_told = paired_to (IsKeptPayment owed) found told z are_told has in
      let same : as_told.0 ≡ x = payment_one all (entries_of s name) quarter as_told.0 x
      (payment_in z has as_told.0 as_told.2) is as_told.2.number in
      subst (Has told) same as_told.1

  pub payments_are : (x : KeptPayment) → Has told x ↔ Is x
  payments_are x = (
    (λ has.
        (let from = paired_from (IsKeptPayment owed) found told x are_told has in
        payment_in from.0 from.1 x from.2)),
    (λ is. payment_there x is),
  )

-- ---- of an obligation

module _ (name : List ℕ) (o : Obligation) (t : Tables) (s : State) (stands : StandsFor t s)
    (sound : IsSound s) (found : List NumberedPayment)
    (lists : Lists PaymentsRise (IsNumberedPayment name)
    (filter (is_payment_between name (day_number o.first) (day_number o.last)) (t Payments)) found)
    (told : List KeptPayment)
    (are_told : Pairs (IsPaymentFor o.first) (filter is_live_payment found) told) where
  abbrev Counts : KeptPayment → Type 0
  Counts x = IsPaymentOf (entries_of s name) o x

  payment_of : (x : KeptPayment) → Has told x → Counts x
  payment_of x has =
      let from = paired_from (IsPaymentFor o.first) (filter is_live_payment found) told x are_told
      has in
      let z : NumberedPayment = from.0 in
      let live = has_filtered is_live_payment found z from.1 in
      let on = is_kept_on name o.first o.last t s stands sound found lists z live.0 in
      let voided : z.payment.voided ≡ false = not-true z.payment.voided live.1 in
      subst Counts (sym from.2) (on.0 ∙ ap Some (as_live z voided), (on.1, on.2), voided, refl)
    where
      as_live : (z : NumberedPayment) → z.payment.voided ≡ false
          → z.payment ≡ record { value = z.payment.value; voided = false }
      as_live z voided = rw voided refl

  of_payment : (x : KeptPayment) → Counts x → Has told x
  of_payment x is =
      let z : NumberedPayment = record {
        number = x.number;
        payment = record { value = x.payment; voided = false };
      } in
      let has = found_on name o.first o.last t s stands sound found lists z
      (is.0, is.1.0, is.1.1) in
      let as_told = paired_to (IsPaymentFor o.first) (filter is_live_payment found) told z are_told
      (has_kept is_live_payment found z has refl) in
      subst (Has told) (as_told.2 ∙ sym (whole is)) as_told.1
    where
      whole : Counts x → x ≡ record {
        number = x.number;
        payment = x.payment;
        voided = false;
        obligation = Some o.first;
      }
      whole is = let voided = is.2 in let obligation = is.3 in rw (voided, obligation) refl

  pub payments_of_are : (x : KeptPayment) → Has told x ↔ Counts x
  payments_of_are x = (payment_of x, of_payment x)

-- Payments, as they are told, and what is known of them by what the tables have.
use Rattle.std.specs.Prelude.{◌≡◌, ◌==◌, ◌&&◌, ◌||◌, ◌↔◌, ℕ, nat_lt, Bool, List, Option, None, Some}
use Rattle.std.specs.Prelude.{filter, map, min, not, pos}
use Rattle.std.specs.List.Sorted.{IsPermutation}
use Rattle.ftd_rules.specs.declared.Obligation.{Obligation}
use Rattle.ftd_rules.specs.Lists.{Has}
use Rattle.ftd_sql.specs.Rows.{PaymentRow}
use Rattle.ftd_sql.specs.Standing.{Tables}
use Rattle.ftd_sql.specs.Tests.{is_live_payment_between}
use Rattle.ftd_sql.specs.declared.TableName.TheVariants.{Payments}
use Rattle.ftd_store.specs.Cells.{day_number}
use Rattle.ftd_store.specs.Rows.{payment_row}
use Rattle.ftd_store.specs.declared.kept_cells.NumberedPayment.{NumberedPayment}
use Rattle.ftd_machine.specs.Agenda.{EachToLater}
use Rattle.ftd_machine.specs.Kept.{IsHeldBy, IsPaymentBefore}
use Rattle.ftd_machine.specs.Explaining.{IsPaymentOf}
use Rattle.ftd_machine.specs.Sound.{IsSound}
use Rattle.ftd_machine.specs.State.{State, entries_of}
use Rattle.ftd_machine.specs.declared.kept.KeptPayment.{KeptPayment}
use Rattle.ftd_entries.specs.Standing.{StandsFor}

-- the earlier of two days, where there is the one
abbrev pub earlier : Option ℕ → ℕ → ℕ
earlier None other = other
earlier (Some day) other = min day other

-- a payment that counts for this obligation, or for none
abbrev pub kept_payment : NumberedPayment → Option ℕ → KeptPayment
kept_payment row obligation = record {
  number = row.number;
  payment = row.payment.value;
  voided = row.payment.voided;
  obligation = obligation;
}

-- the payment is told so, with the obligation that holds its day
pub record IsKeptPayment (owed : List Obligation) (row : NumberedPayment) (x : KeptPayment)
    : Type 0 where
  pub number : x.number ≡ row.number
  pub payment : x.payment ≡ row.payment.value
  pub voided : x.voided ≡ row.payment.voided
  pub obligation : IsHeldBy owed row.payment.value.for_day x.obligation

-- the payment is not void
abbrev pub is_live_payment : NumberedPayment → Bool
is_live_payment row = not row.payment.voided

-- a payment that counts for the obligation that begins on the day
abbrev pub IsPaymentFor : ℕ → NumberedPayment → KeptPayment → Type 0
IsPaymentFor first row x = x ≡ kept_payment row (Some first)

-- the payment, as it stands in the tables
abbrev pub payment_shown : List ℕ → KeptPayment → PaymentRow
payment_shown name x = payment_row name (pos x.number) x.payment x.voided

-- they are exactly the account's live payments in the tables for days from one to another, each
-- once
abbrev pub ShowsPayments : List ℕ → ℕ → ℕ → List KeptPayment → Tables → Type 0
ShowsPayments name first last rows t =
    IsPermutation
    (filter (is_live_payment_between name (day_number first) (day_number last)) (t Payments))
    (map (payment_shown name) rows)

-- they are the payments that count for the obligation, by the day that they are for and number, in
-- each sound state for which the tables stand; and those of the tables for its days, whatever else
-- these hold
pub record KnowsPaymentsOf (name : List ℕ) (o : Obligation) (rows : List KeptPayment) (t : Tables)
    : Type 0 where
  pub shown : ShowsPayments name o.first o.last rows t
  pub in_order : EachToLater IsPaymentBefore rows
  pub all : (s : State) → StandsFor t s → IsSound s → (x : KeptPayment)
      → Has rows x ↔ IsPaymentOf (entries_of s name) o x

abbrev pub is_payment_before : KeptPayment → KeptPayment → Bool
is_payment_before a b =
    nat_lt a.payment.for_day b.payment.for_day
    || ((a.payment.for_day == b.payment.for_day) && nat_lt a.number b.number)

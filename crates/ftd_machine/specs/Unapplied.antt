-- What the desk answers to the question which money counts for nothing, over all accounts.
use Rattle.std.specs.Prelude.{◌≡◌, ◌⊎◌, ◌≤◌, ◌<◌, ◌↔◌, ℕ, false, List, Option, None, Some}
use Rattle.ftd_rules.specs.declared.Obligation.{Obligation}
use Rattle.ftd_rules.specs.declared.payment.Payment.{Payment}
use Rattle.ftd_rules.specs.Laws.{Covers}
use Rattle.ftd_rules.specs.Lists.{Has}
use Rattle.ftd_rules.specs.Payments.{paid_by}
use Rattle.ftd_days.specs.Calendar.{last_day}
use Rattle.ftd_machine.specs.State.{State, Entries, entries_of, holidays, kept_at}
use Rattle.ftd_machine.specs.History.{live_payments, AreOwed}
use Rattle.ftd_machine.specs.Checks.{Answer}
use Rattle.ftd_machine.specs.Agenda.{EachToLater, IsNameBefore}
use Rattle.ftd_machine.specs.declared.entries.Account.{Account}
use Rattle.ftd_machine.specs.declared.lists.UnappliedRow.{UnappliedRow}
use Rattle.ftd_machine.specs.Told.{unapplied_answer}

-- ---- a row

-- all that was paid for an obligation, on whatever day
abbrev pub all_paid : Entries → Obligation → ℕ
all_paid own o = paid_by (live_payments own) o.first o.last last_day last_day

-- a payment under this number that is not void, and that counts for none of the obligations: no
-- deposit period of one has its day
pub record IsStray (own : Entries) (owed : List Obligation) (number : ℕ) (x : UnappliedRow)
    : Type 0 where
  pub payment : Payment
  pub kept : kept_at number own.payments ≡ Some (record { value = payment; voided = false })
  pub for_none : (o : Obligation) → Has owed o → Covers o payment.for_day → ⊥
  pub first : x.first ≡ payment.for_day
  pub last : x.last ≡ payment.for_day
  pub amount : x.amount.0 ≡ 0
  pub paid : x.paid ≡ payment.cents

-- an obligation for which more was paid than its amount
pub record IsOverpaid (own : Entries) (owed : List Obligation) (x : UnappliedRow) : Type 0 where
  pub obligation : Obligation
  pub is_owed : Has owed obligation
  pub first : x.first ≡ obligation.first
  pub last : x.last ≡ obligation.last
  pub amount : x.amount ≡ obligation.cents
  pub paid : x.paid.0 ≡ all_paid own obligation
  pub more : x.amount.0 < x.paid.0

abbrev pub IsUnappliedOf : Entries → List Obligation → Option ℕ → UnappliedRow → Type 0
IsUnappliedOf own owed None x = IsOverpaid own owed x
IsUnappliedOf own owed (Some number) x = IsStray own owed number x

-- a row: of an account that is enrolled, by its obligations
pub record IsUnappliedRow (s : State) (x : UnappliedRow) : Type 0 where
  pub account : Account
  pub enrolled : (entries_of s x.account).account ≡ Some account
  pub owed : List Obligation
  pub are_owed : AreOwed (holidays s) (entries_of s x.account) owed
  pub is_row : IsUnappliedOf (entries_of s x.account) owed x.payment x

-- ---- their order

-- an obligation comes before a payment, and payments go by number
abbrev pub IsNumberBefore : Option ℕ → Option ℕ → Type 0
IsNumberBefore a None = ⊥
IsNumberBefore None (Some b) = Unit {0}
IsNumberBefore (Some a) (Some b) = a < b

-- by account, then by first day, then by number
abbrev pub IsUnappliedBefore : UnappliedRow → UnappliedRow → Type 0
IsUnappliedBefore a b =
    IsNameBefore a.account b.account
    ⊎ ((a.account ≡ b.account)
    × ((a.first < b.first) ⊎ ((a.first ≡ b.first) × IsNumberBefore a.payment b.payment)))

-- the answer is all such rows whose first day is not after the day, in their order
pub record IsUnapplied (s : State) (until : ℕ) (answer : Answer) : Type 0 where
  pub listed : List UnappliedRow
  pub in_order : EachToLater IsUnappliedBefore listed
  pub all : (x : UnappliedRow) → Has listed x ↔ (IsUnappliedRow s x × (x.first ≤ until))
  pub told : answer ≡ unapplied_answer until listed

-- Money that counts for nothing, and what is known of it by what the tables have.
use Rattle.std.specs.Prelude.{◌≡◌, ◌==◌, ◌⊎◌, ◌≤◌, ◌<◌, ◌↔◌, ◌&&◌, ◌||◌, ℕ, Bool, true, false, List}
use Rattle.std.specs.Prelude.{Option, None, Some, nat_lt, bytes_eq}
use Rattle.std.specs.Ordering.{is_lt, nat_cmp}
use Rattle.std.specs.Cmp.Lexicographic.{slice_cmp}
use Rattle.ftd_days.specs.Calendar.{last_day}
use Rattle.ftd_days.specs.declared.cents.Cents.{Cents}
use Rattle.ftd_rules.specs.declared.Obligation.{Obligation}
use Rattle.ftd_rules.specs.declared.payment.Payment.{Payment}
use Rattle.ftd_rules.specs.Lists.{Has}
use Rattle.ftd_rules.specs.Payments.{paid_by}
use Rattle.ftd_sql.specs.Standing.{Tables}
use Rattle.ftd_store.specs.declared.kept_cells.NumberedPayment.{NumberedPayment}
use Rattle.ftd_machine.specs.Kept.{IsHeldBy}
use Rattle.ftd_machine.specs.Sound.{IsSound}
use Rattle.ftd_machine.specs.State.{State, entries_of}
use Rattle.ftd_machine.specs.Unapplied.{IsUnappliedOf, IsUnappliedRow}
use Rattle.ftd_machine.specs.declared.lists.UnappliedRow.{UnappliedRow}
use Rattle.ftd_entries.specs.Standing.{StandsFor}

-- ---- lists

-- those that are so were added to the list, and no others
abbrev pub Adds : {X : Type 0} → (X → Type 0) → List X → List X → Type 0
Adds {X = X} Is before after = (x : X) → Has after x ↔ (Has before x ⊎ Is x)

-- it is so of one of the items
abbrev pub IsOfOne : {X Y : Type 0} → (X → Y → Type 0) → List X → Y → Type 0
IsOfOne {X = X} IsOf xs y = (x : X) × Has xs x × IsOf x y

-- ---- rows

-- all that these payments count for the obligation
abbrev pub paid_for : List Payment → Obligation → ℕ
paid_for payments o = paid_by payments o.first o.last last_day last_day

-- the row of an obligation for which so much was paid
abbrev pub obligation_row : List ℕ → Obligation → Cents → UnappliedRow
obligation_row name o paid = record {
  account = name;
  payment = None;
  first = o.first;
  last = o.last;
  amount = o.cents;
  paid = paid;
}

-- the row of a payment that counts for none
abbrev pub stray_row : List ℕ → NumberedPayment → UnappliedRow
stray_row name row = record {
  account = name;
  payment = Some row.number;
  first = row.payment.value.for_day;
  last = row.payment.value.for_day;
  amount = record { 0 = 0 };
  paid = row.payment.value.cents;
}

-- these payments count more for the obligation than its amount, and this is its row
abbrev pub IsOverpaidRow : List ℕ → List Payment → Obligation → UnappliedRow → Type 0
IsOverpaidRow name payments o x =
    (o.cents.0 < paid_for payments o)
    × (x ≡ obligation_row name o (record { 0 = paid_for payments o }))

-- the payment is not void, none of the obligations holds its day, and this is its row
abbrev pub IsStrayRow : List ℕ → List Obligation → NumberedPayment → UnappliedRow → Type 0
IsStrayRow name owed row x =
    (row.payment.voided ≡ false) × IsHeldBy owed row.payment.value.for_day None
    × (x ≡ stray_row name row)

-- ---- what is known of them

-- they are the rows of the account up to the day, in each sound state for which the tables stand
abbrev pub KnowsOwnUnapplied : List ℕ → ℕ → List UnappliedRow → Tables → Type 0
KnowsOwnUnapplied name until rows t =
    (s : State) (stands : StandsFor t s) → IsSound s → (x : UnappliedRow)
    → Has rows x ↔ ((x.account ≡ name)
    × IsUnappliedOf (entries_of s name) (stands.settled name).owed x.payment x × (x.first ≤ until))

-- they are the rows of all accounts up to the day
abbrev pub KnowsUnapplied : ℕ → List UnappliedRow → Tables → Type 0
KnowsUnapplied until rows t =
    (s : State) → StandsFor t s → IsSound s → (x : UnappliedRow)
    → Has rows x ↔ (IsUnappliedRow s x × (x.first ≤ until))

-- ---- their order

abbrev pub is_number_before : Option ℕ → Option ℕ → Bool
is_number_before a None = false
is_number_before None (Some b) = true
is_number_before (Some a) (Some b) = nat_lt a b

abbrev pub is_day_before : UnappliedRow → UnappliedRow → Bool
is_day_before a b =
    nat_lt a.first b.first || ((a.first == b.first) && is_number_before a.payment b.payment)

abbrev pub is_unapplied_before : UnappliedRow → UnappliedRow → Bool
is_unapplied_before a b =
    is_lt (slice_cmp nat_cmp a.account b.account)
    || (bytes_eq a.account b.account && is_day_before a b)

-- The obligations of all accounts that are due on some days.
use Rattle.std.specs.Prelude.{◌≡◌, ◌⊎◌, ◌≤◌, ◌<◌, ◌↔◌, ◌&&◌, ◌||◌, ◌++◌, ◌-◌, ℕ, ℤ, pos, Bool, true}
use Rattle.std.specs.Prelude.{nat_le, nat_lt, int_lt, nat_abs, if◌then◌else◌, List, map}
use Rattle.std.specs.Prelude.{Option, None, Some, ⊤, filter, string_bytes}
use Rattle.std.specs.List.{list_any, sum_by}
use Rattle.std.specs.List.Sorted.{IsPermutation}
use Rattle.ftd_days.specs.Calendar.{year_of, year_start}
use Rattle.ftd_rules.specs.Accounts.{is_account_name}
use Rattle.ftd_rules.specs.declared.Obligation.{Obligation}
use Rattle.ftd_rules.specs.declared.payment.Payment.{Payment}
use Rattle.ftd_rules.specs.Lists.{Has}
use Rattle.ftd_rules.specs.Obligations.{ByFirstDay}
use Rattle.ftd_rules.specs.Payments.{paid_by}
use Rattle.ftd_sql.specs.Rows.{ObligationRow, PaymentRow}
use Rattle.ftd_sql.specs.Standing.{Tables}
use Rattle.ftd_sql.specs.Tests.{is_account, is_due_between, is_live_payment_between}
use Rattle.ftd_sql.specs.Tests.{is_obligation_between}
use Rattle.ftd_sql.specs.declared.TableName.TheVariants.{Accounts, Obligations, Payments}
use Rattle.ftd_store.specs.Cells.{day_number}
use Rattle.ftd_store.specs.Lists.{Pairs}
use Rattle.ftd_store.specs.Rows.{obligation_row}
use Rattle.ftd_store.specs.declared.obligation_cells.AccountObligation.{AccountObligation}
use Rattle.ftd_machine.specs.History.{live_payments}
use Rattle.ftd_machine.specs.State.{State, entries_of}
use Rattle.ftd_machine.specs.Sound.{IsSound}
use Rattle.ftd_machine.specs.Agenda.{EachToLater, IsNameBefore}
use Rattle.ftd_entries.specs.Standing.{StandsFor}

-- the obligation is due on one of the days
abbrev pub is_due_on : ℕ → ℕ → Obligation → Bool
is_due_on from to o = nat_le from o.due && nat_le o.due to

-- it is this obligation of the account
abbrev pub IsOwedBy : List ℕ → Obligation → AccountObligation → Type 0
IsOwedBy name o x = (string_bytes x.account ≡ name) × (x.obligation ≡ o)

-- those of an account's obligations that are due on one of the days were added, in their order
abbrev pub AddsDue : ℕ → ℕ → List ℕ → List Obligation → List AccountObligation
    → List AccountObligation → Type 0
AddsDue from to name owed before after =
    (more : List AccountObligation)
    × Pairs (IsOwedBy name) (filter (is_due_on from to) owed) more × (after ≡ before ++ more)

-- by account, and of one account by first day
abbrev pub IsOwedBefore : AccountObligation → AccountObligation → Type 0
IsOwedBefore a b =
    IsNameBefore (string_bytes a.account) (string_bytes b.account)
    ⊎ ((string_bytes a.account ≡ string_bytes b.account)
    × (a.obligation.first < b.obligation.first))

-- this obligation of the account is listed
abbrev pub HasOwed : List AccountObligation → List ℕ → Obligation → Type 0
HasOwed listed name o = (x : AccountObligation) × Has listed x × IsOwedBy name o x

-- where a day is given, the account's payments do not reach the amount of the obligation as of the
-- day
abbrev pub IsUnpaidBy : Option ℕ → State → List ℕ → Obligation → Type 0
IsUnpaidBy None s name o = ⊤
IsUnpaidBy (Some as_of) s name o =
    paid_by (live_payments (entries_of s name)) o.first o.last as_of as_of < o.cents.0

-- where the tables stand for the state, these are exactly the obligations of its accounts that are
-- due on one of the days and not paid, by account and first day
pub record AreDue (unpaid : Option ℕ) (from to : ℕ) (listed : List AccountObligation) (t : Tables)
    (s : State) (stands : StandsFor t s) : Type 0 where
  pub in_order : EachToLater IsOwedBefore listed
  pub all : (name : List ℕ) (o : Obligation) → HasOwed listed name o
      ↔ (Has (stands.settled name).owed o × (from ≤ o.due) × (o.due ≤ to)
      × IsUnpaidBy unpaid s name o)

-- so in each sound state for which they stand
abbrev pub KnowsDue : Option ℕ → ℕ → ℕ → List AccountObligation → Tables → Type 0
KnowsDue unpaid from to listed t =
    (s : State) (stands : StandsFor t s) → IsSound s → AreDue unpaid from to listed t s stands

-- ---- one account's

-- the payments do not reach the amount of the obligation, as of a day
abbrev pub is_unpaid : List Payment → ℕ → Obligation → Bool
is_unpaid payments as_of o = nat_lt (paid_by payments o.first o.last as_of as_of) o.cents.0

-- these are obligations that the account owes, by first day, and of those due until the last day
-- exactly the ones that may be due on one of the days and are not paid
pub record AreOwn (unpaid : Option ℕ) (from to : ℕ) (s : State) (name : List ℕ)
    (owed found : List Obligation) : Type 0 where
  pub by_first_day : ByFirstDay found
  pub owes : (o : Obligation) → Has found o → Has owed o
  pub left : (o : Obligation) → Has found o → o.due ≤ to → IsUnpaidBy unpaid s name o
  pub all : (o : Obligation) → Has owed o → from ≤ o.due → o.due ≤ to
      → IsUnpaidBy unpaid s name o → Has found o

abbrev pub KnowsOwn : Option ℕ → ℕ → ℕ → List ℕ → List Obligation → Tables → Type 0
KnowsOwn unpaid from to name found t =
    (s : State) (stands : StandsFor t s) → IsSound s
    → AreOwn unpaid from to s name (stands.settled name).owed found

-- ---- the rows of the tables, whatever else these hold

-- what a payment of the table counts for the obligation of a row by a day, in cents: its amount
-- where it is for one of its days and was made by the day, and else nothing
abbrev pub counts_for : ObligationRow → ℤ → PaymentRow → ℕ
counts_for r by p =
    if int_lt p.for_day r.first || int_lt r.last p.for_day || int_lt by p.paid then 0
    else nat_abs p.cents

-- what the live payments of its account count for it by a day, those for days until another
abbrev pub paid_in : ℕ → ℕ → Tables → ObligationRow → ℕ
paid_in by until t r =
    sum_by (counts_for r (day_number by))
    (filter (is_live_payment_between r.account (day_number 0) (day_number until)) (t Payments))

-- where a day is given, they do not reach its amount as of the day
abbrev pub is_left : Option ℕ → ℕ → Tables → ObligationRow → Bool
is_left None until t r = true
is_left (Some as_of) until t r = int_lt (pos (paid_in as_of until t r)) r.cents

-- an obligation of the account that begins in the year before a day or later, not after another
-- one, and is left
abbrev pub is_own : Option ℕ → ℕ → ℕ → Tables → List ℕ → ObligationRow → Bool
is_own unpaid from to t name r =
    is_obligation_between name (day_number (year_start (year_of from - 1))) (day_number to) r
    && is_left unpaid to t r

-- it is due on one of the days too
abbrev pub is_own_due : Option ℕ → ℕ → ℕ → Tables → List ℕ → ObligationRow → Bool
is_own_due unpaid from to t name r =
    is_own unpaid from to t name r && is_due_between (day_number from) (day_number to) r

-- one of the accounts of the table has the name
abbrev pub has_account : Tables → List ℕ → Bool
has_account t name = list_any (is_account name) (t Accounts)

-- such an obligation of one of the accounts of the table
abbrev pub is_due_in : Option ℕ → ℕ → ℕ → Tables → ObligationRow → Bool
is_due_in unpaid from to t r =
    has_account t r.account && is_own_due unpaid from to t r.account r

-- the row of an obligation and its account
abbrev pub owed_row : AccountObligation → ObligationRow
owed_row x = obligation_row (string_bytes x.account) x.obligation

-- these are obligations that the account owes and has left, and exactly the rows of such, each once
pub record ListsOwn (unpaid : Option ℕ) (from to : ℕ) (name : List ℕ) (found : List Obligation)
    (t : Tables) : Type 0 where
  pub known : KnowsOwn unpaid from to name found t
  pub rows : IsPermutation (filter (is_own unpaid from to t name) (t Obligations))
      (map (obligation_row name) found)

-- these are exactly such obligations of the accounts of the table, each once, and each name is the
-- name of an account
pub record ListsDue (unpaid : Option ℕ) (from to : ℕ) (listed : List AccountObligation) (t : Tables)
    : Type 0 where
  pub known : KnowsDue unpaid from to listed t
  pub rows : IsPermutation (filter (is_due_in unpaid from to t) (t Obligations))
      (map owed_row listed)
  pub names : (x : AccountObligation) → Has listed x
      → is_account_name (string_bytes x.account) ≡ true

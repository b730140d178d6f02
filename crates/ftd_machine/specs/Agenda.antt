-- What the desk answers to the questions what is due over all accounts, and what of it is not paid.
use Rattle.std.specs.Prelude.{◌≡◌, ◌⊎◌, ◌≤◌, ◌<◌, ◌-◌, ◌↔◌, ℕ, List, [], ◌∷◌, Some}
use Rattle.std.specs.Prelude.{◌==◌, ◌&&◌, Bool, true, false}
use Rattle.std.specs.Ordering.{nat_cmp}
use Rattle.std.specs.declared.cmp.Ordering.TheVariants.{Less}
use Rattle.std.specs.Cmp.Lexicographic.{slice_cmp}
use Rattle.ftd_days.specs.Calendar.{quarter_of}
use Rattle.ftd_rules.specs.declared.Form.{Form}
use Rattle.ftd_rules.specs.declared.Obligation.{Obligation}
use Rattle.ftd_rules.specs.declared.verdict.DueRow.{DueRow}
use Rattle.ftd_rules.specs.declared.verdict.Verdict.{Verdict}
use Rattle.ftd_rules.specs.declared.verdict.Verdict.TheVariants.{Met, WithReturn, Open, MadeUp}
use Rattle.ftd_rules.specs.declared.verdict.Verdict.TheVariants.{Short, Late}
use Rattle.ftd_rules.specs.Lists.{Has}
use Rattle.ftd_rules.specs.Periods.{return_period_of, return_period_last}
use Rattle.ftd_rules.specs.Returns.{IsReturnDue}
use Rattle.ftd_machine.specs.State.{State, entries_of, holidays}
use Rattle.ftd_machine.specs.History.{AreOwed}
use Rattle.ftd_machine.specs.Asking.{IsDueRow}
use Rattle.ftd_machine.specs.Checks.{Answer}
use Rattle.ftd_machine.specs.declared.entries.Account.{Account}
use Rattle.ftd_machine.specs.declared.lists.AgendaRow.{AgendaRow}

-- ---- a row

abbrev pub due_date_of : AgendaRow → ℕ
due_date_of x = x.row.obligation.due

abbrev pub first_day_of : AgendaRow → ℕ
first_day_of x = x.row.obligation.first

-- what is left to pay of a row, in cents: its amount less what was paid, or nothing
abbrev pub left_of : DueRow → ℕ
left_of row = row.obligation.cents.0 - row.paid.0

-- the last day of the return period that the row's deposit belongs to
abbrev pub return_last_of : Form → DueRow → ℕ
return_last_of form row = return_period_last form (return_period_of form row.obligation.first)

-- the day by which to pay a deposit that may be paid with its return: the due date of the return
-- once the return period is over, and its own due date until then, since a later pay run may make
-- the total 2,500.00 or more (Pub. 15 section 11, "Payment with return": who is not sure that the
-- total stays below that deposits by the due date)
abbrev pub IsDayWithReturn : Form → List ℕ → ℕ → DueRow → ℕ → Type 0
IsDayWithReturn form holidays as_of row day =
    ((return_last_of form row < as_of)
    × IsReturnDue form holidays (quarter_of row.obligation.first) day)
    ⊎ ((as_of ≤ return_last_of form row) × (day ≡ row.obligation.due))

-- the day by which to pay what is left, where this is the verdict: the makeup date of a shortfall,
-- the day for a deposit that may be paid with its return, the due date otherwise
abbrev pub IsDayFor : Form → List ℕ → ℕ → DueRow → Verdict → ℕ → Type 0
IsDayFor form holidays as_of row Met day = day ≡ row.obligation.due
IsDayFor form holidays as_of row WithReturn day = IsDayWithReturn form holidays as_of row day
IsDayFor form holidays as_of row Open day = day ≡ row.obligation.due
IsDayFor form holidays as_of row MadeUp day = day ≡ row.obligation.due
IsDayFor form holidays as_of row Short day = day ≡ row.makeup
IsDayFor form holidays as_of row Late day = day ≡ row.obligation.due

abbrev pub IsPayBy : List ℕ → ℕ → AgendaRow → Type 0
IsPayBy holidays as_of x = IsDayFor x.form holidays as_of x.row x.row.verdict x.pay_by

-- the row's verdict is that its deposit may be paid with the return
abbrev pub is_with_return : Verdict → Bool
is_with_return WithReturn = true
is_with_return other = false

-- whether the deposit may be paid with its return depends on a total that may still grow: the
-- return period is not over, so that the deposit is to be paid by its own due date
abbrev pub depends_on_total : AgendaRow → Bool
depends_on_total x = is_with_return x.row.verdict && (x.pay_by == due_date_of x)

-- a row as of a day: an account that is enrolled, its form, an obligation of it with its row of the
-- due list of the quarter in which it begins, and the day by which to pay
pub record IsAgendaRow (s : State) (as_of : ℕ) (x : AgendaRow) : Type 0 where
  pub account : Account
  pub enrolled : (entries_of s x.account).account ≡ Some account
  pub form_is : x.form ≡ account.form
  pub owed : List Obligation
  pub are_owed : AreOwed (holidays s) (entries_of s x.account) owed
  pub is_row : IsDueRow (holidays s) (entries_of s x.account) owed (quarter_of (first_day_of x))
      as_of x.row
  pub pay_by : IsPayBy (holidays s) as_of x

-- ---- their order

-- each stands so to those after it
abbrev pub EachToLater : {X : Type 0} → (X → X → Type 0) → List X → Type 0
EachToLater R [] = Unit {0}
EachToLater R (x ∷ xs) = ((later : _) → Has xs later → R x later) × EachToLater R xs

-- one name comes before another, byte by byte
abbrev pub IsNameBefore : List ℕ → List ℕ → Type 0
IsNameBefore a b = slice_cmp nat_cmp a b ≡ Less

-- of one due date: by account, and of one account by first day
abbrev pub IsOwnBefore : AgendaRow → AgendaRow → Type 0
IsOwnBefore a b =
    IsNameBefore a.account b.account
    ⊎ ((a.account ≡ b.account) × (first_day_of a < first_day_of b))

-- by due date, then by account, then by first day
abbrev pub ComesBefore : AgendaRow → AgendaRow → Type 0
ComesBefore a b =
    (due_date_of a < due_date_of b) ⊎ ((due_date_of a ≡ due_date_of b) × IsOwnBefore a b)

-- ---- which rows

-- it is due on one of the days
abbrev pub IsDueBetween : ℕ → ℕ → AgendaRow → Type 0
IsDueBetween from to x = (from ≤ due_date_of x) × (due_date_of x ≤ to)

-- it is due by the day, and something is left to pay
abbrev pub IsLeftBy : ℕ → AgendaRow → Type 0
IsLeftBy until x = (due_date_of x ≤ until) × (0 < left_of x.row)

-- the answer is all such rows as of a day, in their order
pub record IsAgenda (s : State) (IsAsked : AgendaRow → Type 0) (as_of : ℕ)
    (as_answer : List AgendaRow → Answer) (answer : Answer) : Type 0 where
  pub listed : List AgendaRow
  pub in_order : EachToLater ComesBefore listed
  pub all : (x : AgendaRow) → Has listed x ↔ (IsAgendaRow s as_of x × IsAsked x)
  pub told : answer ≡ as_answer listed

-- ---- beside due lists

-- the row is one of this due list of the account as of a day, due on one of the days
pub record IsCutOf (holidays : List ℕ) (from to as_of : ℕ) (account : Account) (due : List DueRow)
    (x : AgendaRow) : Type 0 where
  pub form_is : x.form ≡ account.form
  pub listed : Has due x.row
  pub pay_by : IsPayBy holidays as_of x
  pub between : IsDueBetween from to x
